use Rattle.forms.proofs.bags.+seek.Given as goal

abbrev pub decreases-seek : goal.decreases-seek
decreases-seek l = l.at

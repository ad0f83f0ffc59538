use Rattle.forms.proofs.numbers.Figures.+number.Given as goal

abbrev pub decreases-number : goal.decreases-number
decreases-number l = l.at

use Rattle.std.proofs.Common.{arith}
use Rattle.std.proofs.lemmas.List.Sums.{suffix_len-le-length}
use Rattle.check_texts.proofs.tell_notes.Goals as goal
use Rattle.check_texts.specs.Shown.{blank}

pub slice_bounds-note-items-count : goal.slice_bounds-note-items-count
slice_bounds-note-items-count c = omega (arith, suffix_len-le-length blank c.args.notes.now, c.blank_at_the_end.ensures)

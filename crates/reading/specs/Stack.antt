-- The forms that are open, the innermost first.
use Rattle.std.specs.Prelude.{List, Option, slice_get}
use Rattle.reading.specs.declared.frame.Frame.{Frame}

abbrev pub first_of : List Frame → Option Frame
first_of fs = slice_get fs 0

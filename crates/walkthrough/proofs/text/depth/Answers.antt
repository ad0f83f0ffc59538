use Rattle.std.proofs.Common.{get_or, arith}
use Rattle.walkthrough.specs.Nesting.{nesting}
use Rattle.walkthrough.proofs.Levels.{all_read, level_rises, one_on}
use Rattle.walkthrough.proofs.text.depth.Goals as goal

pub loop-byte-preserved : goal.loop-byte-preserved
loop-byte-preserved c =
    let text = c.args.text.now in
    let s = c.loop-byte in
    let level = c.level_behind-level in
    (omega (arith, level.ensures, level_rises s.level (get_or text s.byte-index 0), s.invariant.0), omega (arith, c.max-deepest.ensures), one_on text s.byte-index s.level s.deepest (nesting 0 text) s.invariant.2 c.loop-byte-test.true s.invariant.1 level.result c.max-deepest.result level.ensures c.max-deepest.ensures)

pub returns : goal.returns
returns c =
    let s = c.loop-byte in
    all_read c.args.text.now s.byte-index s.level s.deepest (nesting 0 c.args.text.now) s.invariant.2 c.loop-byte-test.false s.invariant.1

use Rattle.std.proofs.Common.{◌≡◌, ◌≤◌, max, drop}
use Rattle.walkthrough.specs.Nesting.{nesting}
use Rattle.walkthrough.proofs.text.depth.Given as goal

-- what is left gives the same depth as the whole text
abbrev pub invariant-loop-byte : goal.invariant-loop-byte
invariant-loop-byte l = (l.level ≤ l.byte-index) × (l.level ≤ l.deepest) × (max l.deepest (nesting l.level (drop l.byte-index l.text)) ≡ nesting 0 l.text)

use Rattle.std.proofs.Common.{◌≡◌, ◌-◌, ◌∷◌, length, get_or, take, drop, ap, ◌∙◌, arith}
use Rattle.std.proofs.lemmas.List.Sums.{prefix_len-le-length}
use Rattle.std.proofs.lemmas.Slice.{first_rest}
use Rattle.std.proofs.lemmas.Slice.Zip.{length-zip}
use Rattle.std.specs.List.{zip}
use Rattle.lines.proofs.Joined.{pieces_joined}
use Rattle.lines.proofs.split.pieces_len.Goals as goal
use Rattle.lines.specs.Split.{joins}

pub bounds-bytes-len : goal.bounds-bytes-len
bounds-bytes-len c =
    let bs = c.args.bytes.now in
    let rest = take (length bs - 1) (drop 1 bs) in
    omega (arith, prefix_len-le-length joins (zip bs rest), length-zip bs rest, c.joined_len-len.ensures)

pub overflow_add-len : goal.overflow_add-len
overflow_add-len c =
    let bs = c.args.bytes.now in
    let rest = take (length bs - 1) (drop 1 bs) in
    omega (arith, prefix_len-le-length joins (zip bs rest), length-zip bs rest, c.joined_len-len.ensures)

pub returns-in-32 : goal.returns-in-32
returns-in-32 c =
    let bs = c.args.bytes.now in
    let rest = take (length bs - 1) (drop 1 bs) in
    let first : get_or bs 0 0 ≡ 32 = omega arith in
    c.then_some.ensures ∙ pieces_joined bs rest c.joined_len-len.result (first_rest bs 0 (omega arith) ∙ ap (λ x. x ∷ rest) first) c.joined_len-len.ensures

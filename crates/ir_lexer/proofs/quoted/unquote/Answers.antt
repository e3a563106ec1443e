use Rattle.std.proofs.Common.{◌≡◌, ◌+◌, ◌-◌, length, take, drop, arith, add-one, length-drop}
use Rattle.std.proofs.Math.Seq.{take-length}
use Rattle.ir_lexer.proofs.Strings.{inside_of_quoted}
use Rattle.ir_lexer.proofs.quoted.unquote.Goals as goal

pub slice_bounds-behind-count : goal.slice_bounds-behind-count
slice_bounds-behind-count c = let h = inside_of_quoted c.args.spelling.now c.requires in omega (arith, h.room, c.run_of.ensures.count)

pub slice_bounds-behind-start : goal.slice_bounds-behind-start
slice_bounds-behind-start c = let h = inside_of_quoted c.args.spelling.now c.requires in omega (arith, h.room, c.run_of.ensures.count)

pub decoded_of-requires : goal.decoded_of-requires
decoded_of-requires c =
    let s = c.args.spelling.now in
    let h = inside_of_quoted s c.requires in
    let n = c.run_of.result in
    let whole : take (length s - (n + 1)) (drop (n + 1) s) ≡ drop (n + 1) s = rw (← length-drop (n + 1) s) (take-length (drop (n + 1) s)) in
    rw (c.run_of-2.ensures.count, whole, add-one, c.run_of.ensures.count) h.tested

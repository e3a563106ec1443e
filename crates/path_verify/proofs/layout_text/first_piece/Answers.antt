use Rattle.std.proofs.Common.{◌≡◌, length, take, sym, subst}
use Rattle.path_verify.proofs.PiecesTold.{taken}
use Rattle.path_verify.proofs.layout_text.first_piece.Goals as goal

pub slice_bounds-result-end : goal.slice_bounds-result-end
slice_bounds-result-end c = subst (λ n. n ≡ length (take n c.args.text.now)) (sym c.piece_length.ensures) (taken c.args.separator c.args.text.now)

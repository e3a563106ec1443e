use Rattle.std.proofs.Common.{ℕ, ◌<◌, List, All, length, sym, subst}
use Rattle.std.proofs.lemmas.List.Elements.{All-tail}
use Rattle.instruction_verify.proofs.written_types.signature_suits.Goals as goal

pub are_passable-requires : goal.are_passable-requires
are_passable-requires c =
    let s = c.args.signature.now in
    subst (λ (ts : List ℕ). All (λ ty. ty < length c.args.types.now.types) ts) (sym c.as_slice.ensures) (All-tail (λ ty. ty < length c.args.types.now.types) s.returns s.parameters c.requires)

use Rattle.std.proofs.Common.{Option, ℕ, ap, sym, ◌∙◌, subst, ◌<◌, length}
use Rattle.std.specs.Prelude.{IfSome}
use Rattle.std.specs.Option.{option_map}
use Rattle.type_table.specs.Types.{tree}
use Rattle.instruction_verify.proofs.last.results.part_type.Goals as goal

pub returns-in-Some-clause-ty : goal.returns-in-Some-clause-ty
returns-in-Some-clause-ty c = sym (ap (option_map (tree c.args.types.now)) c.in-Some.is) ∙ c.part_at.ensures.part

pub returns-in-Some-clause-known : goal.returns-in-Some-clause-known
returns-in-Some-clause-known c = subst (λ (o : Option ℕ). IfSome o (λ ty. ty < length c.args.types.now.types)) c.in-Some.is c.part_at.ensures.known

pub returns-in-None-clause-ty : goal.returns-in-None-clause-ty
returns-in-None-clause-ty c = sym (ap (option_map (tree c.args.types.now)) c.in-None.is) ∙ c.part_at.ensures.part

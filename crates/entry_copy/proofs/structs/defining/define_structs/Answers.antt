use Rattle.std.proofs.Common.{length, refl, ap, ◌∙◌, arith}
use Rattle.type_table.specs.Types.{Types, structs}
use Rattle.module_arena.specs.View.{module_of}
use Rattle.item_build.specs.Partly.{with_structs}
use Rattle.item_build.proofs.Named.{all_done}
use Rattle.item_build.proofs.Partly.{same_structs}
use Rattle.entry_copy.proofs.OnStructs.StructsDefined.{as_many_structs}
use Rattle.entry_copy.proofs.structs.defining.define_structs.Goals as goal

pub structs-init : goal.structs-init
structs-init c = record {
  upto = omega arith;
  joined = same_structs c.args.into.now.arena;
  others = refl;
  tables = refl;
  partly = c.requires.partly;
  copies = c.requires.copies;
  done = λ k lt. absurd (omega (arith, lt));
}

pub returns-clause-structs : goal.returns-clause-structs
returns-clause-structs c =
    let a = c.args.from.now in
    let upto = c.structs.invariant.upto in
    let past = c.structs-test.false in
    let many = c.struct_count-number-end.ensures ∙ ap (λ (t : Types). length t.structs) c.types.ensures in
    let all = as_many_structs a in
    all_done (structs a.table) c.structs.into.arena c.structs.number c.structs.invariant.partly c.structs.invariant.done (omega (arith, upto, past, many, all))

pub returns-clause-module : goal.returns-clause-module
returns-clause-module c = c.structs.invariant.joined ∙ ap (with_structs (module_of c.args.into.now.arena)) (returns-clause-structs c)

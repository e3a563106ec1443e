use Rattle.std.proofs.Common.{length, refl, ap, ◌∙◌, arith}
use Rattle.type_table.specs.Types.{Types, structs}
use Rattle.module_arena.specs.Module.{Module}
use Rattle.item_build.specs.Partly.{with_structs}
use Rattle.item_build.proofs.Partly.{same_structs}
use Rattle.entry_copy.specs.Tables.{with_types}
use Rattle.entry_copy.proofs.structs.defining.copy_types.Goals as goal

pub copied-init : goal.copied-init
copied-init c = record {
  upto = omega arith;
  joined = same_structs c.args.into.now.arena;
  others = refl;
  tables = refl;
  partly = c.requires.partly;
  copies = c.requires.copies;
}

pub copied-preserved : goal.copied-preserved
copied-preserved c =
    let old = c.copied.invariant in
    let step = c.in_ok-copy_type.ensures in
    let more = c.copied-test.true in
    let many = c.type_count-number-end.ensures.count ∙ ap (λ (x : Types). length x.types) c.types.ensures in
    record {
      upto = omega (arith, more, many);
      joined = step.module ∙ ap (λ (m : Module). with_structs m (structs c.copy_type.new.into.arena.table)) old.joined;
      others = step.entries ∙ old.others;
      tables = step.others ∙ ap (λ t. with_types t c.copy_type.new.copier.types) old.tables;
      partly = step.partly;
      copies = step.copies;
    }

use Rattle.std.proofs.Common.{◌∙◌, ℕ, Option, [], ◌∷◌, ◌++◌, ap, refl, sym}
use Rattle.record_table.specs.Walk.{next}
use Rattle.record_read.specs.Reader.{Reader}
use Rattle.record_read.proofs.Gathering.{loop_goes, loop_ends}
use Rattle.type_read.proofs.OnArena.Lasting.{next_still}
use Rattle.body_read.specs.Calls.Calls.{only_known}
use Rattle.body_read.proofs.OnCalls.Heads.{takes_walk}
use Rattle.body_read.proofs.OnCalls.ParameterTypes.{known_more, take_none, take_more, take_all}
use Rattle.body_read.proofs.calls.parameters.read_parameters.Goals as goal

pub types-init : goal.types-init
types-init c = record {
  taken = take_none (record c.args.m.now { reader = c.number-count.new.self }) c.number-count.result _ c.new-types.ensures.items;
  gathered = c.new-known.ensures.items ∙ sym (ap only_known c.new-types.ensures.items);
}

pub types-preserved : goal.types-preserved
types-preserved c =
    let first = record c.args.m.now { reader = c.number-count.new.self } in
    let on = loop_goes c.types.place c.number-count.result _ (sym c.types-test.ensures) in
    let x = c.read_type-ty.result in
    let pushed = c.in_ok-push.ensures.items ∙ ap (λ (o : Option ℕ). c.types.types.items ++ o ∷ []) c.same.ensures in record {
      taken = take_more first c.types.m c.read_type-ty.new.m c.number-count.result c.types.place c.types.types.items _ x c.types.invariant.taken on.0 on.1 c.read_type-ty.ensures.takes c.read_type-ty.ensures.known c.read_type-ty.ensures.reads pushed;
      gathered = known_more c.types.types.items c.types.known.items _ x c.types.invariant.gathered c.in_ok-push_known.ensures ∙ ap only_known (sym pushed);
    }

pub returns : goal.returns
returns c =
    let m0 = c.args.m.now in
    let r = c.number-count.new.self in record {
      reads = take_all m0 (record m0 { reader = r }) c.types.m c.number-count.result c.types.place c.types.types.items c.types.types.items (takes_walk m0 r (next m0.reader.walk).1 c.number-count.ensures.reader (λ broken. next_still m0.reader.walk broken))
          c.number-count.ensures.value (ap (λ (q : Reader). q.walk) c.number-count.ensures.reader) c.types.invariant.taken (loop_ends c.types.place c.number-count.result _ (sym c.types-test.ensures)) refl;
      known_are = c.from_vec.ensures ∙ c.types.invariant.gathered;
    }

use Rattle.std.proofs.Common.{◌<◌, ℕ, length, refl, sym, subst, ap, ◌∙◌, arith}
use Rattle.type_table.specs.Types.{Types, structs}
use Rattle.module_arena.specs.Module.{Module}
use Rattle.link_rules.specs.Linked.{link_result}
use Rattle.entry_copy.specs.Tables.{Tables, new_struct, with_types}
use Rattle.item_build.specs.Partly.{IsDone, with_structs}
use Rattle.item_build.proofs.Partly.{same_structs}
use Rattle.module_linker.proofs.OnParts.StructBodies.{done_next}
use Rattle.module_linker.proofs.parts.part.copy_part.Goals as goal

pub copied-init : goal.copied-init
copied-init c = record {
  upto = omega arith;
  copied = omega arith;
  making = λ ms i is. is;
  joined = same_structs c.args.into.now.arena;
  unchanged = refl;
  others = refl;
  still = λ naming a t h. h;
  kept = λ ms i is other below done. done;
}

pub copy_type-requires-clause-making : goal.copy_type-requires-clause-making
copy_type-requires-clause-making c =
    let ms = c.requires.making.0 in
    let i = c.requires.making.1 in
    (ms, i, c.copied.invariant.making ms i c.requires.making.2)

pub copied-preserved : goal.copied-preserved
copied-preserved c =
    let old = c.copied.invariant in
    let step = c.in_ok-copy_type.ensures in
    let more = c.copied-test.true in
    let many = c.type_count-number-end.ensures.count ∙ ap (λ (x : Types). length x.types) c.types.ensures in
    let copied = step.copied in
    record {
      upto = omega (arith, more, many);
      copied = omega (arith, copied);
      making = λ ms i is. step.making ms i (old.making ms i is);
      joined = step.module ∙ ap (λ (m : Module). with_structs m (structs c.copy_type.new.into.arena.table)) old.joined;
      unchanged = step.entries ∙ old.unchanged;
      others = step.others ∙ ap (λ t. with_types t c.copy_type.new.copier.types) old.others;
      still = λ naming a t h. step.still naming a t (old.still naming a t h);
      kept = λ ms i is other below done. step.kept ms i (old.making ms i is) other below (old.kept ms i is other below done);
    }

pub defined-init : goal.defined-init
defined-init c =
    let old = c.copied.invariant in
    let copied = old.copied in
    let past = c.copied-test.false in
    let many = c.type_count-number-end.ensures.count ∙ ap (λ (t : Types). length t.types) c.types.ensures in
    record {
      upto = omega arith;
      copied = omega (arith, copied, past, many);
      making = old.making;
      joined = old.joined;
      unchanged = old.unchanged;
      others = old.others;
      still = old.still;
      kept = old.kept;
      done = λ ms i id is lt. absurd (omega (arith, lt));
    }

pub define_struct-requires-clause-making : goal.define_struct-requires-clause-making
define_struct-requires-clause-making c =
    let ms = c.requires.making.0 in
    let i = c.requires.making.1 in
    (ms, i, c.defined.invariant.making ms i c.requires.making.2)

pub defined-preserved : goal.defined-preserved
defined-preserved c =
    let old = c.defined.invariant in
    let step = c.in_ok-define_struct.ensures in
    let more = c.defined-test.true in
    let many = c.struct_count-number-end.ensures ∙ ap (λ (x : Types). length x.structs) c.types-2.ensures in
    let had = old.copied in
    let grown = step.more in
    let a = c.args.from.now in
    let b = c.args.into.now.arena in
    let t = c.args.copier.now in
    let last : c.defined.number < length a.table.structs = omega (arith, more, many) in
    record {
      upto = omega (arith, last);
      copied = omega (arith, had, grown);
      making = λ ms i is. step.making ms i (old.making ms i is);
      joined = step.module ∙ ap (λ (m : Module). with_structs m (structs c.define_struct.new.into.arena.table)) old.joined;
      unchanged = step.entries ∙ old.unchanged;
      others = step.others ∙ ap (λ x. with_types x c.define_struct.new.copier.types) old.others;
      still = λ naming x y h. step.still naming x y (old.still naming x y h);
      kept = λ ms i is other below done. step.kept ms i (old.making ms i is) other below (old.kept ms i is other below done);
      done = λ ms i id is lt.
          done_next ms i a b t is c.defined.into.arena c.define_struct.new.into.arena c.defined.copier c.defined.number last old.others (λ k before. old.done ms i k is before)
          (step.kept ms i (old.making ms i is))
          (subst (λ (k : ℕ). IsDone (link_result ms).structs c.define_struct.new.into.arena (new_struct c.defined.copier k)) c.new-in-defined.ensures (step.done ms i (old.making ms i is))) id lt;
    }

pub returns-clause-all : goal.returns-clause-all
returns-clause-all c =
    let is = c.defined.invariant.making c.requires.making.0 c.requires.making.1 c.requires.making.2 in
    let few = is.copies.few_types in
    let copied = c.defined.invariant.copied in
    omega (arith, few, copied)

pub returns-clause-done : goal.returns-clause-done
returns-clause-done c ms i is id lt =
    let old = c.defined.invariant in
    let past = c.defined-test.false in
    let many = c.struct_count-number-end.ensures ∙ ap (λ (x : Types). length x.structs) c.types-2.ensures in
    subst (λ (x : Tables). IsDone (link_result ms).structs c.defined.into.arena (new_struct x id)) (sym old.others) (old.done ms i id is (omega (arith, lt, past, many)))

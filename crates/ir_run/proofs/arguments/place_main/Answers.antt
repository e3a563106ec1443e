use Rattle.std.proofs.Common.{ℕ, ◌^◌, ◌≤◌, All, List, length, sym, ap, ◌∙◌, subst, arith}
use Rattle.ir_eval.specs.declared.value.Pointer.{Pointer}
use Rattle.ir_memory.specs.Given.{IsKnown}
use Rattle.run_names.specs.Entry.Mains.{main_seen}
use Rattle.run_rules.specs.Opening.{with_pointers, with_strings}
use Rattle.ir_run.specs.Arguments.{Places, PlacesAll}
use Rattle.ir_run.proofs.Blocks.{none_kept, then_kept}
use Rattle.ir_run.proofs.Mains.{array_full, false_if, main_made, plain_made, true_if, words_full}
use Rattle.ir_run.proofs.arguments.place_main.Goals as goal

pub returns-then-not-main : goal.returns-then-not-main
returns-then-not-main c = (plain_made (main_seen c.args.main) c.args.arguments.now c.args.memory.now (false_if c.args.main.takes_arguments c.if-not-main.true), none_kept c.args.memory.now)

pub returns-in_default : goal.returns-in_default
returns-in_default c =
    let m = c.args.memory.now in
    let none = rw c.in_default.is at c.in_ok-strings.ensures in
    words_full (main_seen c.args.main) c.args.arguments.now m (true_if c.args.main.takes_arguments c.if-not-main.false) (ap (λ (ss : List (List ℕ)). with_strings ss m) (sym c.as_slice.ensures) ∙ none)

pub place_pointers-requires : goal.place_pointers-requires
place_pointers-requires c =
    let n = c.place_strings.new.memory in
    let told : PlacesAll (with_strings c.as_slice.result.now c.args.memory.now) c.in-Some.strings.items c.args.memory.now n = rw c.in-Some.is at c.in_ok-strings.ensures in
    let few = told.few in
    let near = told.near in
    record {
      unsealed = told.kept.sealed ∙ c.requires.unsealed;
      next = omega (arith, few, near, c.requires.next);
      few = subst (λ (ps : List Pointer). length ps ≤ 2 ^ 28) (sym c.deref.ensures.value) few;
      known = subst (λ (ps : List Pointer). All (IsKnown n.list) ps) (sym c.deref.ensures.value) told.known;
    }

pub returns-in_default-2 : goal.returns-in_default-2
returns-in_default-2 c =
    let m = c.args.memory.now in
    let n = c.place_strings.new.memory in
    let ps = c.in-Some.strings.items in
    let told : PlacesAll (with_strings c.as_slice.result.now m) ps m n = rw c.in-Some.is at c.in_ok-strings.ensures in
    let none = rw c.in_default-2.is at c.in_ok-array.ensures in
    array_full (main_seen c.args.main) c.args.arguments.now m (true_if c.args.main.takes_arguments c.if-not-main.false) n ps (ap (λ (ss : List (List ℕ)). with_strings ss m) (sym c.as_slice.ensures) ∙ told.made)
    (ap (λ (qs : List Pointer). with_pointers qs n) (sym c.deref.ensures.value) ∙ none)

pub overflow_cast-count : goal.overflow_cast-count
overflow_cast-count c =
    let told : PlacesAll (with_strings c.as_slice.result.now c.args.memory.now) c.in-Some.strings.items c.args.memory.now c.place_strings.new.memory = rw c.in-Some.is at c.in_ok-strings.ensures in
    let few = told.few in
    omega (arith, few)

pub returns : goal.returns
returns c =
    let m = c.args.memory.now in
    let n = c.place_strings.new.memory in
    let o = c.place_pointers.new.memory in
    let ps = c.in-Some.strings.items in
    let told : PlacesAll (with_strings c.as_slice.result.now m) ps m n = rw c.in-Some.is at c.in_ok-strings.ensures in
    let has : Places (with_pointers c.deref.result.now n) c.in-Some-2.array n o = rw c.in-Some-2.is at c.in_ok-array.ensures in (
      main_made (main_seen c.args.main) c.args.arguments.now m (true_if c.args.main.takes_arguments c.if-not-main.false) n ps (ap (λ (ss : List (List ℕ)). with_strings ss m) (sym c.as_slice.ensures) ∙ told.made) o c.in-Some-2.array c.len-count.result (omega (arith, c.len-count.ensures, c.in-Some.strings.ok.0))
          (ap (λ (qs : List Pointer). with_pointers qs n) (sym c.deref.ensures.value) ∙ has.made),
      then_kept m n o told.kept has.kept,
    )

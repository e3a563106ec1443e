use Rattle.std.proofs.Common.{◌≡◌, ap, sym, subst, ◌∙◌, arith, ℕ, List, length, ◌<◌, true}
use Rattle.std.proofs.lemmas.List.{length-map}
use Rattle.std.specs.Borrow.{Bor}
use Rattle.ir_syntax.specs.declared.item.WrittenBody.{WrittenBody}
use Rattle.ir_syntax.specs.View.{body_view, items_view}
use Rattle.type_table.specs.Tree.{TreeBody}
use Rattle.module_arena.specs.Module.{Bytes}
use Rattle.name_rules.specs.ModuleOf.{structs_in}
use Rattle.name_rules.specs.Written.{body_in}
use Rattle.type_judge.specs.Order.Mentions.{AreNumbers}
use Rattle.type_judge.specs.Order.Measuring.{bodies_in, bodies_of, found_in, with_measures}
use Rattle.type_judge.specs.Order.Order.{stands_in}
use Rattle.type_judge.proofs.OnOrder.Settled.{all_found}
use Rattle.type_judge.proofs.order.measures.StructMeasures.of_items.Goals as goal

-- there are as many bodies as structs
same_count : (bodies : List (Bor WrittenBody)) (structs : List (Bytes × TreeBody)) → bodies_in bodies ≡ bodies_of structs → length bodies ≡ length structs
same_count bodies structs e = sym (length-map bodies (λ (b : Bor WrittenBody). body_in (body_view b.now))) ∙ ap length e ∙ length-map structs (λ (s : Bytes × TreeBody). s.1)

pub measure_along-requires : goal.measure_along-requires
measure_along-requires c number here =
    let structs = structs_in (items_view c.args.items.now) in
    let within = c.in_ok-order.ensures.within number (subst (λ (os : List ℕ). stands_in os number ≡ true) c.deref-3.ensures.value here) in
    let count = same_count c.in_ok-bodies.bodies.items structs c.in_ok-bodies.ensures in
    let same = ap length c.deref-2.ensures.value in
    omega (arith, within, count, same)

pub returns-clause-measured : goal.returns-clause-measured
returns-clause-measured c =
    let structs = structs_in (items_view c.args.items.now) in
    let numbers = c.in_ok-numbers.numbers in
    let none = c.in_ok-table.table.measures.items in
    let own = c.in_ok-table.ensures.numbers in
    let bodies = ap bodies_in c.deref-2.ensures.value ∙ c.in_ok-bodies.ensures in
    let count = ap length c.deref.ensures.value ∙ same_count c.in_ok-bodies.bodies.items structs c.in_ok-bodies.ensures in
    let found = c.measure_along.ensures.measures ∙ (λ j. with_measures (own j) (bodies j) none (c.deref-3.ensures.value j)) in
    let kept = c.measure_along.ensures.numbers ∙ own in
    record {
      numbers = subst (λ (ns : List (Bytes × ℕ)). AreNumbers ns structs) (sym kept) c.in_ok-numbers.ensures;
      measures = λ name.
          (λ j. found_in (kept j) (found j) name)
          ∙ all_found structs numbers c.in_ok-numbers.ensures c.in_ok-order.order.items c.in_ok-order.ensures none (c.in_ok-table.ensures.count ∙ count)
          (λ n less. c.in_ok-table.ensures.none n (subst (λ k. n < k) (sym count) less)) name;
    }

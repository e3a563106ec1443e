-- The demands of items, item by item, and what the judge of them tells.
use Rattle.std.specs.Prelude.{◌≡◌, refl, ℕ, ◌+◌, ◌<◌, ◌≤◌, List, [], ◌∷◌, ◌++◌, length, Option, None, Result, Ok, Err}
use Rattle.std.proofs.Common.{ap, sym, subst, ◌∙◌, get_or, drop, take}
use Rattle.std.proofs.lemmas.List.{drop_more, drop_all}
use Rattle.ir_syntax.specs.declared.item.Item.{Item}
use Rattle.ir_syntax.specs.Tree.{ItemTree}
use Rattle.ir_syntax.specs.View.{item_view, items_view}
use Rattle.name_rules.specs.declared.fault.ResolveFault.{ResolveFault}
use Rattle.name_rules.specs.declared.fault.ResolveFault.TheVariants as faults
use Rattle.name_rules.specs.Demand.{Demand, first_there, Tells}
use Rattle.name_rules.specs.TypeDemands.{Known}
use Rattle.name_rules.specs.Breaks.{item_demands, demands_behind, demands, known_in}
use Rattle.type_judge.proofs.OnOrder.Gathered.{items_more}
use Rattle.type_judge.specs.Judging.{IsJudged}
use Rattle.type_judge.proofs.Parts.{Leads, judged_front, judged_rest}

-- what the items from one on ask for
abbrev pub left_from : Known → List Item → ℕ → List Demand
left_from known items i = demands_behind known (items_view (take i items)) (items_view (drop i items))

at_index : (known : Known) (items : List Item) (i : ℕ) (x : Item) → i < length items → x ≡ get_or items i x
    → left_from known items i ≡ item_demands known (items_view (take i items)) (item_view x) ++ left_from known items (i + 1)
at_index known items i x h e =
    let front = items_view (take i items) in
    let rest = items_view (drop (i + 1) items) in
    ap (λ (ys : List Item). demands_behind known front (items_view ys)) (drop_more items i x h)
    ∙ ap (λ (y : Item). item_demands known front (item_view y) ++ demands_behind known (front ++ item_view y ∷ []) rest) (sym e)
    ∙ ap (λ (before : List ItemTree). item_demands known front (item_view x) ++ demands_behind known before rest) (sym (items_more items i x h e))

-- the next item is fine
pub item_next : (known : Known) (items : List Item) (i : ℕ) (x : Item) (all : List Demand) → i < length items → x ≡ get_or items i x
    → IsJudged (item_demands known (items_view (take i items)) (item_view x)) (Ok tt) → Leads (left_from known items i) all → Leads (left_from known items (i + 1)) all
item_next known items i x all h e fine l = record { on_ = λ r j. l.on_ r (subst (λ (ds : List Demand). IsJudged ds r) (sym (at_index known items i x h e)) (judged_rest _ _ r fine j)) }

-- the next item is refused
pub item_fails : (known : Known) (items : List Item) (i : ℕ) (x : Item) (all : List Demand) (fault : ResolveFault) → i < length items → x ≡ get_or items i x
    → IsJudged (item_demands known (items_view (take i items)) (item_view x)) (Err fault) → Leads (left_from known items i) all → IsJudged all (Err fault)
item_fails known items i x all fault h e bad l = l.on_ (Err fault) (subst (λ (ds : List Demand). IsJudged ds (Err fault)) (sym (at_index known items i x h e)) (judged_front _ _ fault bad))

-- no item is left
pub items_end : (known : Known) (items : List Item) (i : ℕ) (all : List Demand) → length items ≤ i → Leads (left_from known items i) all → IsJudged all (Ok tt)
items_end known items i all h l =
    l.on_ (Ok tt) (subst (λ (ys : List Item). IsJudged (demands_behind known (items_view (take i items)) (items_view ys)) (Ok tt)) (sym (drop_all i items h)) (record { told = refl }))

-- what is told first is told of all
pub told_first : (x y : Option ResolveFault) (fault : ResolveFault) → Tells {A = Unit {0}} x (Err fault) → Tells {A = Unit {0}} (first_there x y) (Err fault)
told_first x y faults.Memory j = tt
told_first x y (faults.TooMany kind count) j = ap (λ z. first_there z y) j
told_first x y (faults.Duplicate place earlier) j = ap (λ z. first_there z y) j
told_first x y (faults.UnknownName place name) j = ap (λ z. first_there z y) j
told_first x y (faults.WrongNumber place next found) j = ap (λ z. first_there z y) j
told_first x y (faults.ConstantRange place) j = ap (λ z. first_there z y) j
told_first x y (faults.TooDeep place) j = ap (λ z. first_there z y) j
told_first x y (faults.SelfContaining place) j = ap (λ z. first_there z y) j
told_first x y (faults.TooLarge place) j = ap (λ z. first_there z y) j

-- behind what is fine, the rest is told
pub told_behind : (x y : Option ResolveFault) (r : Result (Unit {0}) ResolveFault) → x ≡ None → Tells {A = Unit {0}} y r → Tells {A = Unit {0}} (first_there x y) r
told_behind x y r e j = subst (λ z. Tells {A = Unit {0}} (first_there z y) r) (sym e) j

-- the judge of all items, by what they define
pub whole_judged : (known : Known) (slice items : List Item) (r : Result (Unit {0}) ResolveFault) → known ≡ known_in (items_view items) → slice ≡ items → IsJudged (demands_behind known [] (items_view slice)) r → IsJudged (demands (items_view items)) r
whole_judged known slice items r k s j =
    subst (λ (k : Known). IsJudged (demands_behind k [] (items_view items)) r) k
    (subst (λ (xs : List Item). IsJudged (demands_behind known [] (items_view xs)) r) s j)

-- No demand that does not hold stands before the first break.
use Rattle.std.proofs.Common.{◌≡◌, ℕ, ◌≤◌, ◌==◌, ◌&&◌, nat_lt, nat_le, List, [], ◌∷◌, ◌++◌, length, filter_map, Bool, true, false, Option, Some, None, ◌⊎◌, inl, inr, refl, sym, ◌∙◌, subst, arith}
use Rattle.std.proofs.lemmas.Bool.{or_from, ltb-true, ne_eqb}
use Rattle.ir_base.specs.declared.place.Place.{Place}
use Rattle.ir_lexer.specs.Ahead.{Located}
use Rattle.ir_terminals.specs.Position.{text_tokens}
use Rattle.ir_syntax.specs.Tree.{ItemTree}
use Rattle.module_arena.specs.declared.fault.CountKind.{CountKind}
use Rattle.module_arena.specs.declared.fault.CountKind.TheVariants as kinds
use Rattle.module_arena.specs.Known.{counted_aliases}
use Rattle.name_rules.specs.declared.fault.ResolveFault.{ResolveFault}
use Rattle.name_rules.specs.declared.fault.ResolveFault.TheVariants as faults
use Rattle.name_rules.specs.Breaks.{demands, most, no_more, too_many}
use Rattle.name_rules.specs.ModuleOf.{structs_in, variable_in, alias_in, function_in}
use Rattle.name_rules.specs.Demand.{Demand, first_refusal, first_there}
use Rattle.name_rules.specs.Places.Places.{place_of_refusal, is_before, NoneBefore, InOrder}
use Rattle.name_rules.specs.Places.Laws.{BreaksAtTheLeastPlace}
use Rattle.name_rules.proofs.OnPlaces.Ascending.{UpTo, same, AllFrom, Ascending, ascending}
use Rattle.name_rules.proofs.OnPlaces.Items.{in_order}

-- ---- places

not_less : (x y : ℕ) → y ≤ x → nat_lt x y ≡ false
not_less x y h = by (nat_lt x y) refl
  where
    by : (b : Bool) → nat_lt x y ≡ b → b ≡ false
    by false q = refl
    by true q = let less = ltb-true x y q in absurd (omega (arith, h, less))

either_false : (x y : Bool) → (x ≡ false) ⊎ (y ≡ false) → (x && y) ≡ false
either_false false y h = refl
either_false true y (inl e) = absurd cc
either_false true y (inr e) = e

not_before : (a b : Place) → UpTo a b → is_before (Some b) (Some a) ≡ false
not_before a b (inl h) =
    or_from (nat_lt b.line a.line) ((b.line == a.line) && nat_lt b.column a.column) (not_less b.line a.line (omega (arith, h)))
    (either_false (b.line == a.line) (nat_lt b.column a.column) (inl (ne_eqb b.line a.line (λ e. let f = e in omega (arith, h, f)))))
not_before a b (inr h) =
    let e = h.0 in
    or_from (nat_lt b.line a.line) ((b.line == a.line) && nat_lt b.column a.column) (not_less b.line a.line (omega (arith, e)))
    (either_false (b.line == a.line) (nat_lt b.column a.column) (inr (not_less b.column a.column h.1)))

before_nothing : (o : Option Place) → is_before o None ≡ false
before_nothing (Some p) = refl
before_nothing None = refl

none_before_nothing : (ds : List Demand) → NoneBefore None ds
none_before_nothing [] = tt
none_before_nothing (d ∷ ds) = ((λ fails. before_nothing (place_of_refusal d.refusal)), none_before_nothing ds)

-- ---- demands at tokens

all_behind : (p : Place) (us vs : List Located) → AllFrom p (us ++ vs) → AllFrom p vs
all_behind p [] vs h = h
all_behind p (u ∷ us) vs h = all_behind p us vs h.1

ascending_behind : (us vs : List Located) → Ascending (us ++ vs) → Ascending vs
ascending_behind [] vs h = h
ascending_behind (u ∷ us) vs h = ascending_behind us vs h.1

-- where all tokens stand there or further on
each_further : (p : Place) (ts : List Located) (ds : List Demand) → AllFrom p ts → InOrder ts ds → NoneBefore (Some p) ds
each_further p ts [] all h = tt
each_further p ts (d ∷ ds) all (before, t, behind, e, at, rest) =
    let parts = all_behind p before (t ∷ behind) (subst (AllFrom p) e all) in
    ((λ fails. subst (λ x. is_before x (Some p) ≡ false) (sym at) (not_before p t.place parts.0)), each_further p (t ∷ behind) ds parts rest)

refusal_once : (a b : ResolveFault) → Some a ≡ Some b → a ≡ b
refusal_once a b e = cc

true_false : true ≡ false → ⊥
true_false e = absurd cc

first_is_least : (ts : List Located) (ds : List Demand) (fault : ResolveFault) → Ascending ts → InOrder ts ds → first_refusal ds ≡ Some fault → NoneBefore (place_of_refusal fault) ds
first_is_least ts [] fault up h e = tt
first_is_least ts (d ∷ ds) fault up (before, t, behind, q, at, rest) e = by d.holds refl e (first_is_least (t ∷ behind) ds fault here rest)
  where
    here : Ascending (t ∷ behind)
    here = ascending_behind before (t ∷ behind) (subst Ascending q up)

    by : (b : Bool) → d.holds ≡ b → elim b [ true ↦ first_refusal ds | false ↦ Some d.refusal ] ≡ Some fault
        → (first_refusal ds ≡ Some fault → NoneBefore (place_of_refusal fault) ds) → NoneBefore (place_of_refusal fault) (d ∷ ds)
    by true k e more = ((λ fails. absurd (true_false (sym k ∙ fails))), more e)
    by false k e more =
        subst (λ f. NoneBefore (place_of_refusal f) (d ∷ ds)) (refusal_once d.refusal fault e)
        (subst (λ x. NoneBefore x (d ∷ ds)) (sym at) (
          (λ fails. subst (λ x. is_before x (Some t.place) ≡ false) (sym at) (not_before t.place t.place (same t.place))),
          each_further t.place (t ∷ behind) ds (same t.place, here.0) rest,
        ))

-- ---- counts

-- what is told, if something is, has no place
abbrev Placeless : Option ResolveFault → Type 0
Placeless told = (fault : ResolveFault) → told ≡ Some fault → place_of_refusal fault ≡ None

no_more_placeless : (kind : CountKind) (count : ℕ) (more : Option ResolveFault) → Placeless more → Placeless (no_more kind count more)
no_more_placeless kind count more h = by (nat_le count most)
  where
    by : (b : Bool) → Placeless (elim b [ true ↦ more | false ↦ Some (faults.TooMany kind count) ])
    by true = h
    by false = λ fault e. subst (λ f. place_of_refusal f ≡ None) (refusal_once (faults.TooMany kind count) fault e) refl

nothing_placeless : Placeless None
nothing_placeless fault e = absurd cc

too_many_placeless : (items : List ItemTree) → Placeless (too_many items)
too_many_placeless items =
    let variables = length (filter_map variable_in items) in
    let functions = length (filter_map function_in items) in
    let aliases = counted_aliases (length (filter_map alias_in items)) variables functions in
    let fourth = no_more kinds.Aliases aliases None in
    let third = no_more kinds.Functions functions fourth in
    let second = no_more kinds.Variables variables third in
    no_more_placeless kinds.Structs (length (structs_in items)) second
    (no_more_placeless kinds.Variables variables third
    (no_more_placeless kinds.Functions functions fourth (no_more_placeless kinds.Aliases aliases None nothing_placeless)))

-- the items of a text
pub at_the_least_place : BreaksAtTheLeastPlace
at_the_least_place text items fault h e = by (too_many items) (too_many_placeless items) e
  where
    by : (counts : Option ResolveFault) → Placeless counts → first_there counts (first_refusal (demands items)) ≡ Some fault → NoneBefore (place_of_refusal fault) (demands items)
    by None placeless e = first_is_least (text_tokens text) (demands items) fault (ascending text) (in_order text items h) e
    by (Some told) placeless e = subst (λ x. NoneBefore x (demands items)) (sym (placeless fault e)) (none_before_nothing (demands items))

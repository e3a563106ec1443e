-- Whether what is asked for holds, apart from how it is refused.
use Rattle.std.specs.Prelude.{◌≡◌, refl, Bool, true, false, ◌&&◌, List, [], ◌∷◌, ◌++◌, map, flat_map, Option, Some, None}
use Rattle.std.proofs.Common.{ap, sym, ◌∙◌}
use Rattle.std.proofs.lemmas.List.{map-append}
use Rattle.name_rules.specs.declared.fault.ResolveFault.{ResolveFault}
use Rattle.name_rules.specs.Demand.{Demand, first_refusal, first_there, ask}
use Rattle.name_rules.proofs.Judging.{first-append, both_hold}

-- what holds, demand by demand
abbrev pub answers : List Demand → List Bool
answers ds = map (λ (d : Demand). d.holds) ds

abbrev pub all_true : List Bool → Bool
all_true [] = true
all_true (b ∷ bs) = b && all_true bs

-- the same is asked for, as far as it holds
abbrev pub Same : List Demand → List Demand → Type 0
Same a b = answers a ≡ answers b

pub holds_if : (ds : List Demand) → first_refusal ds ≡ None → all_true (answers ds) ≡ true
holds_if [] e = refl
holds_if (d ∷ ds) e = by d.holds e (holds_if ds)
  where
    by : (h : Bool) → elim h as (λ _. Option ResolveFault) [ true ↦ first_refusal ds | false ↦ Some d.refusal ] ≡ None → (first_refusal ds ≡ None → all_true (answers ds) ≡ true) → (h && all_true (answers ds)) ≡ true
    by true q again = again q
    by false q again = absurd cc

pub none_if : (ds : List Demand) → all_true (answers ds) ≡ true → first_refusal ds ≡ None
none_if [] e = refl
none_if (d ∷ ds) e = by d.holds e (none_if ds)
  where
    by : (h : Bool) → (h && all_true (answers ds)) ≡ true → (all_true (answers ds) ≡ true → first_refusal ds ≡ None) → elim h as (λ _. Option ResolveFault) [ true ↦ first_refusal ds | false ↦ Some d.refusal ] ≡ None
    by true q again = again q
    by false q again = absurd cc

pub same_none : (a b : List Demand) → Same a b → first_refusal a ≡ None → first_refusal b ≡ None
same_none a b e h = none_if b (ap all_true (sym e) ∙ holds_if a h)

pub same_both : (a b c d : List Demand) → Same a b → Same c d → Same (a ++ c) (b ++ d)
same_both a b c d e f = map-append (λ (d : Demand). d.holds) a c ∙ (λ i. e i ++ f i) ∙ sym (map-append (λ (d : Demand). d.holds) b d)

pub none_both : (a b : List Demand) → first_refusal a ≡ None → first_refusal b ≡ None → first_refusal (a ++ b) ≡ None
none_both a b e f = first-append a b ∙ (λ i. first_there (e i) (f i))

pub none_more : (h : Bool) (refusal : ResolveFault) (ds : List Demand) → h ≡ true → first_refusal ds ≡ None → first_refusal (ask h refusal ∷ ds) ≡ None
none_more h refusal ds e f = ap (λ b. first_refusal (ask b refusal ∷ ds)) e ∙ f

-- a list of demands, each of them for an element
pub same_each : {X : Type 0} (f : X → List Demand) (e : X → X) → ((x : X) → Same (f (e x)) (f x)) → (xs : List X) → Same (flat_map f (map e xs)) (flat_map f xs)
same_each f e h [] = refl
same_each f e h (x ∷ xs) = same_both (f (e x)) (f x) (flat_map f (map e xs)) (flat_map f xs) (h x) (same_each f e h xs)

-- none fails
pub record Held (ds : List Demand) : Type 0 where
  pub none : first_refusal ds ≡ None

pub held_none : Held []
held_none = record { none = refl }

pub held_more : {h : Bool} {refusal : ResolveFault} {ds : List Demand} → h ≡ true → Held ds → Held (ask h refusal ∷ ds)
held_more {h} {refusal} {ds} e f = record { none = none_more h refusal ds e f.none }

pub held_both : {a b : List Demand} → Held a → Held b → Held (a ++ b)
held_both {a} {b} e f = record { none = none_both a b e.none f.none }

pub held_parts : (a b : List Demand) → Held (a ++ b) → Held a × Held b
held_parts a b h = let p = both_hold a b h.none in (record { none = p.0 }, record { none = p.1 })

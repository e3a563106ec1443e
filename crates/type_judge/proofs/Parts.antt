-- Answers to the parts of a list of demands, and the answer to the whole.
use Rattle.std.specs.Prelude.{◌≡◌, refl, ℕ, ◌+◌, ◌<◌, ◌≤◌, List, [], ◌∷◌, ◌++◌, length, map, flat_map, Bool, Option, Result, Ok, Err}
use Rattle.std.proofs.Common.{ap, sym, subst, ◌∙◌, get_or, drop}
use Rattle.std.proofs.lemmas.List.{drop_more, drop_all}
use Rattle.name_rules.specs.declared.fault.ResolveFault.{ResolveFault}
use Rattle.ir_terminals.specs.declared.values.Integer.{Integer}
use Rattle.ir_phrases.specs.Constants.Tree.{TypeTree, TypeTrees, ArrayType, StructType, types}
use Rattle.ir_base.specs.declared.place.Place.{Place}
use Rattle.type_table.specs.declared.measure.Measure.{Measure}
use Rattle.name_rules.specs.Demand.{Demand, nests, is_small, is_length}
use Rattle.name_rules.specs.TypeDemands.{Known, measured, is_past, has_past, have_past, type_demands, types_demands}
use Rattle.name_rules.proofs.Judging as parts
use Rattle.type_judge.specs.Judging.{IsJudged}

abbrev Answer : Type 0
Answer = Result (Unit {0}) ResolveFault

-- a part that is refused refuses all that begins with it
pub judged_front : (a b : List Demand) (fault : ResolveFault) → IsJudged a (Err fault) → IsJudged (a ++ b) (Err fault)
judged_front a b fault j = record { told = parts.judged_front (Unit {0}) (Unit {0}) a b fault j.told }

-- behind a part that is fine, the answer to the rest is that to all
pub judged_rest : (a b : List Demand) (r : Answer) → IsJudged a (Ok tt) → IsJudged b r → IsJudged (a ++ b) r
judged_rest a b r fine j = record { told = parts.judged_rest a b r fine.told j.told }

-- one demand, and those behind it
pub judged_stop : (d : Demand) (ds : List Demand) (fault : ResolveFault) → IsJudged (d ∷ []) (Err fault) → IsJudged (d ∷ ds) (Err fault)
judged_stop d ds fault j = judged_front (d ∷ []) ds fault j

pub judged_next : (d : Demand) (ds : List Demand) (r : Answer) → IsJudged (d ∷ []) (Ok tt) → IsJudged ds r → IsJudged (d ∷ ds) r
judged_next d ds r fine j = judged_rest (d ∷ []) ds r fine j

-- an answer to the first is one to the second
pub record Leads (rest all : List Demand) : Type 0 where
  pub on_ : (answer : Result (Unit {0}) ResolveFault) → IsJudged rest answer → IsJudged all answer

-- nothing was judged yet
pub leads_start : (all : List Demand) → Leads all all
leads_start all = record { on_ = λ r j. j }

at_index : {A B : Type 0} (f : B → List Demand) (view : A → B) (xs : List A) (i : ℕ) (x : A) → i < length xs → x ≡ get_or xs i x → flat_map f (map view (drop i xs)) ≡ f (view x) ++ flat_map f (map view (drop (i + 1) xs))
at_index f view xs i x h e = ap (λ ys. flat_map f (map view ys)) (drop_more xs i x h) ∙ ap (λ y. f (view y) ++ flat_map f (map view (drop (i + 1) xs))) (sym e)

-- a loop over elements: the next one is fine
pub leads_next : {A B : Type 0} (f : B → List Demand) (view : A → B) (xs : List A) (i : ℕ) (x : A) (all : List Demand) → i < length xs → x ≡ get_or xs i x → IsJudged (f (view x)) (Ok tt) → Leads (flat_map f (map view (drop i xs))) all → Leads (flat_map f (map view (drop (i + 1) xs))) all
leads_next f view xs i x all h e fine l = record { on_ = λ r j. l.on_ r (subst (λ (ds : List Demand). IsJudged ds r) (sym (at_index f view xs i x h e)) (judged_rest _ _ r fine j)) }

-- the next one is refused
pub leads_fails : {A B : Type 0} (f : B → List Demand) (view : A → B) (xs : List A) (i : ℕ) (x : A) (all : List Demand) (fault : ResolveFault) → i < length xs → x ≡ get_or xs i x → IsJudged (f (view x)) (Err fault) → Leads (flat_map f (map view (drop i xs))) all → IsJudged all (Err fault)
leads_fails f view xs i x all fault h e bad l = l.on_ (Err fault) (subst (λ (ds : List Demand). IsJudged ds (Err fault)) (sym (at_index f view xs i x h e)) (judged_front _ _ fault bad))

-- none is left
pub leads_end : {A B : Type 0} (f : B → List Demand) (view : A → B) (xs : List A) (i : ℕ) (all : List Demand) → length xs ≤ i → Leads (flat_map f (map view (drop i xs))) all → IsJudged all (Ok tt)
leads_end f view xs i all h l = l.on_ (Ok tt) (subst (λ (ys : List _). IsJudged (flat_map f (map view ys)) (Ok tt)) (sym (drop_all i xs h)) (record { told = refl }))

-- types as a list
pub types_are : (known : Known) (ts : List TypeTree) → flat_map (type_demands known) ts ≡ types_demands known (types ts)
types_are known [] = refl
types_are known (t ∷ ts) = ap (λ ds. type_demands known t ++ ds) (types_are known ts)

-- an array: its own demands, and those of its element
pub array_judged : (known : Known) (ty : TypeTree) (place : Place) (count : Integer) (element : TypeTree) (measure : Option Measure) → ty ≡ ArrayType place count element → measure ≡ measured known ty → (r : Answer)
    → IsJudged (nests place measure ∷ is_small place (is_past known ty) (has_past known element) ∷ is_length count ∷ type_demands known element) r → IsJudged (type_demands known ty) r
array_judged known ty place count element measure e q r j =
    subst (λ (t : TypeTree). IsJudged (type_demands known t) r) (sym e)
    (subst (λ (t : TypeTree). IsJudged (nests place (measured known t) ∷ is_small place (is_past known t) (has_past known element) ∷ is_length count ∷ type_demands known element) r) e
    (subst (λ (m : Option Measure). IsJudged (nests place m ∷ is_small place (is_past known ty) (has_past known element) ∷ is_length count ∷ type_demands known element) r) q j))

-- a struct: its own demands, and those of its fields
pub struct_judged : (known : Known) (ty : TypeTree) (place : Place) (packed : Bool) (fields : TypeTrees) (measure : Option Measure) (past : Bool) → ty ≡ StructType place packed fields → measure ≡ measured known ty → past ≡ is_past known ty → (r : Answer)
    → IsJudged (nests place measure ∷ is_small place past (have_past known fields) ∷ types_demands known fields) r → IsJudged (type_demands known ty) r
struct_judged known ty place packed fields measure past e q p r j =
    subst (λ (t : TypeTree). IsJudged (type_demands known t) r) (sym e)
    (subst (λ (t : TypeTree). IsJudged (nests place (measured known t) ∷ is_small place (is_past known t) (have_past known fields) ∷ types_demands known fields) r) e
    (subst (λ (b : Bool). IsJudged (nests place (measured known ty) ∷ is_small place b (have_past known fields) ∷ types_demands known fields) r) p
    (subst (λ (m : Option Measure). IsJudged (nests place m ∷ is_small place past (have_past known fields) ∷ types_demands known fields) r) q j)))

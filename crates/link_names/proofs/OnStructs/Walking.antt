-- What a walk remembers, and the numbers that it finds.
use Rattle.std.proofs.Common.{◌≡◌, ℕ, zero, suc, ◌+◌, ◌<◌, ◌≤◌, All, Bool, List, [], ◌∷◌, ◌++◌, length, map, take, get_or, slice_get, slice_index_or, set, Option, Some, Result, Ok, Err, IfOk, OnOk, ◌⊎◌, inl, inr, refl, sym, ap, ◌∙◌, subst, arith}
use Rattle.std.specs.List.{AllByRecursion}
use Rattle.std.specs.Option.{option_map}
use Rattle.std.proofs.lemmas.List.{take_more, take_all, map-append}
use Rattle.std.proofs.lemmas.Option.{get_or_from_slice_get, slice_get_within}
use Rattle.std.proofs.lemmas.List.Elements.{All-from_recursion}
use Rattle.type_table.specs.Shape.{Label, Shape, void_leaf, array_of, struct_of, with_first, all_expanded}
use Rattle.type_table.specs.Types.{Types, trees, trees_at}
use Rattle.link_names.specs.Shapes.Shapes.{shapes_at}
use Rattle.link_names.proofs.OnShapes.Grown.{still_at}
use Rattle.link_names.specs.Structs.Shapes.{AreKept, IsNumber, AreNumbers, struct_shape, type_shape}
use Rattle.link_names.specs.Structs.Walked.{AreOf, Remembers, IsWalked, Finds, FindsAll, Keeps}
use Rattle.link_names.specs.declared.structs.walk.ShapeWalk.{ShapeWalk}
use Rattle.link_names.proofs.OnStructs.Shaped.{look}

-- ---- numbers stay

pub number_kept : (before now : List Shape) → AreKept before now → (number : ℕ) (o : Option Shape) → IsNumber before number o → IsNumber now number o
number_kept before now kept number o h = (h.0, kept number h.0 h.1, h.2)

pub numbers_kept : (before now : List Shape) → AreKept before now → (numbers : List ℕ) (os : List (Option Shape)) → AreNumbers before numbers os → AreNumbers now numbers os
numbers_kept before now kept [] [] h = tt
numbers_kept before now kept [] (o ∷ os) h = absurd h
numbers_kept before now kept (number ∷ numbers) [] h = absurd h
numbers_kept before now kept (number ∷ numbers) (o ∷ os) h = (number_kept before now kept number o h.0, numbers_kept before now kept numbers os h.1)

pub numbers_more : (all : List Shape) (numbers : List ℕ) (os : List (Option Shape)) (number : ℕ) (o : Option Shape) → AreNumbers all numbers os → IsNumber all number o → AreNumbers all (numbers ++ number ∷ []) (os ++ o ∷ [])
numbers_more all [] [] number o h k = (k, tt)
numbers_more all [] (p ∷ os) number o h k = absurd h
numbers_more all (n ∷ numbers) [] number o h k = absurd h
numbers_more all (n ∷ numbers) (p ∷ os) number o h k = (h.0, numbers_more all numbers os number o h.1 k)

-- ---- what is remembered

pub remembers_kept : (t : Types) (walk : ShapeWalk) (before now : List Shape) → AreKept before now → Remembers t walk before → Remembers t walk now
remembers_kept t walk before now kept h = record {
  good = h.good;
  within = h.within;
  type_count = h.type_count;
  struct_count = h.struct_count;
  types = λ id number e. number_kept before now kept number (type_shape t id) (h.types id number e);
  structs = λ id number e. number_kept before now kept number (struct_shape t id) (h.structs id number e);
}

pub walked_none : (t : Types) (walk : ShapeWalk) (all : List Shape) → Remembers t walk all → IsWalked t all walk all
walked_none t walk all h = record { kept = λ number s e. e; remembers = h }

-- a shape that is kept after others were looked at
pub found_then : (t : Types) (before mid now : List Shape) (walk : ShapeWalk) (number : ℕ) (s : Shape) (o : Option Shape)
    → IsWalked t before walk mid → Keeps mid now number s → o ≡ Some s → Finds t before walk now number o
found_then t before mid now walk number s o h k e = record {
  walked = record {
    kept = λ n x f. k.kept n x (h.kept n x f);
    remembers = remembers_kept t walk mid now k.kept h.remembers;
  };
  is = (s, k.is, e);
}

pub found_as : {E : Type 0} (t : Types) (before now : List Shape) (walk : ShapeWalk) (o p : Option Shape) (r : Result ℕ E)
    → p ≡ o → IfOk r (λ number. Finds t before walk now number o) → IfOk r (λ number. Finds t before walk now number p)
found_as t before now walk o p r e h = subst (λ (x : Option Shape). IfOk r (λ number. Finds t before walk now number x)) (sym e) h

pub if_found : {E : Type 0} (t : Types) (before mid now : List Shape) (walk : ShapeWalk) (s : Shape) (o : Option Shape) (r : Result ℕ E)
    → IsWalked t before walk mid → IfOk r (λ number. Keeps mid now number s) → o ≡ Some s → IfOk r (λ number. Finds t before walk now number o)
if_found t before mid now walk s o (Err e) h k is = tt
if_found t before mid now walk s o (Ok number) h k is = found_then t before mid now walk number s o h k is

-- ---- the parts of what is kept

pub number_below : (all : List Shape) (number : ℕ) (o : Option Shape) → IsNumber all number o → number < length all
number_below all number o h = slice_get_within all number h.0 h.1

below_each : (all : List Shape) (numbers : List ℕ) (os : List (Option Shape)) → AreNumbers all numbers os → AllByRecursion (λ n. n < length all) numbers
below_each all [] os h = tt
below_each all (number ∷ numbers) [] h = absurd h
below_each all (number ∷ numbers) (o ∷ os) h = (number_below all number o h.0, below_each all numbers os h.1)

pub numbers_below : (all : List Shape) (numbers : List ℕ) (os : List (Option Shape)) → AreNumbers all numbers os → All (λ n. n < length all) numbers
numbers_below all numbers os h = All-from_recursion (λ n. n < length all) numbers (below_each all numbers os h)

pub number_at : (all : List Shape) (number : ℕ) (o : Option Shape) → IsNumber all number o → o ≡ Some (slice_index_or all number void_leaf)
number_at all number o h = h.2 ∙ ap Some (sym (get_or_from_slice_get all number h.0 void_leaf h.1))

pub array_found : (all : List Shape) (n number : ℕ) (o : Option Shape) → IsNumber all number o → option_map (array_of n) o ≡ Some (array_of n (slice_index_or all number void_leaf))
array_found all n number o h = ap (option_map (array_of n)) (number_at all number o h)

module _ (t : Types) (all : List Shape) where
  fields_found : (numbers parts : List ℕ) → AreNumbers all numbers (map (type_shape t) parts) → all_expanded (look t) (trees_at (trees t) parts) ≡ Some (shapes_at all numbers)
  fields_found [] [] h = refl
  fields_found [] (p ∷ parts) h = absurd h
  fields_found (n ∷ numbers) [] h = absurd h
  fields_found (n ∷ numbers) (p ∷ parts) h = λ j. with_first (number_at all n (type_shape t p) h.0 j) (fields_found numbers parts h.1 j)

  pub struct_found : (l : Label) (packed : Bool) (numbers parts : List ℕ) → AreNumbers all numbers (map (type_shape t) parts)
      → option_map (struct_of l packed) (all_expanded (look t) (trees_at (trees t) parts)) ≡ Some (struct_of l packed (shapes_at all numbers))
  struct_found l packed numbers parts h = ap (option_map (struct_of l packed)) (fields_found numbers parts h)

-- ---- one shape is kept

kept_by : (before now : List Shape) (s : Shape) → (now ≡ before) ⊎ (now ≡ before ++ s ∷ []) → AreKept before now
kept_by before now s (inl e) = λ number x h. ap (λ l. slice_get l number) e ∙ h
kept_by before now s (inr e) = λ number x h. ap (λ l. slice_get l number) e ∙ still_at before (s ∷ []) number x h

pub keeps_of : {E : Type 0} (before now : List Shape) (s : Shape) (r : Result ℕ E) → OnOk r ((now ≡ before) ⊎ (now ≡ before ++ s ∷ [])) → IfOk r (λ number. slice_get now number ≡ Some s) → IfOk r (λ number. Keeps before now number s)
keeps_of before now s (Err e) h k = tt
keeps_of before now s (Ok number) h k = record { kept = kept_by before now s h; is = k }

-- ---- one number more is remembered

set_other : (xs : List (Option ℕ)) (i id : ℕ) (x y : Option ℕ) → slice_get (set xs i x) id ≡ Some y → ((id ≡ i) × (x ≡ y)) ⊎ (slice_get xs id ≡ Some y)
set_other [] i id x y h = inr h
set_other (z ∷ xs) zero zero x y h = inl (refl, cc)
set_other (z ∷ xs) zero (suc id) x y h = inr h
set_other (z ∷ xs) (suc i) zero x y h = inr h
set_other (z ∷ xs) (suc i) (suc id) x y h = later (set_other xs i id x y h)
  where
    later : ((id ≡ i) × (x ≡ y)) ⊎ (slice_get xs id ≡ Some y) → ((suc id ≡ suc i) × (x ≡ y)) ⊎ (slice_get (z ∷ xs) (suc id) ≡ Some y)
    later (inl e) = inl (ap suc e.0, e.1)
    later (inr e) = inr e

set_length : (xs : List (Option ℕ)) (i : ℕ) (x : Option ℕ) → length (set xs i x) ≡ length xs
set_length [] i x = refl
set_length (z ∷ xs) zero x = refl
set_length (z ∷ xs) (suc i) x = ap suc (set_length xs i x)

inner : (m n : ℕ) → Some m ≡ Some n → m ≡ n
inner m n e = cc

of_more : (all : List Shape) (shape : ℕ → Option Shape) (found : List (Option ℕ)) (i number : ℕ) → AreOf all shape found → IsNumber all number (shape i) → AreOf all shape (set found i (Some number))
of_more all shape found i number are is id other h = go (set_other found i id (Some number) (Some other) h)
  where
    go : ((id ≡ i) × (Some number ≡ Some other)) ⊎ (slice_get found id ≡ Some (Some other)) → IsNumber all other (shape id)
    go (inl e) = subst (λ k. IsNumber all other (shape k)) (sym e.0) (subst (λ n. IsNumber all n (shape i)) (inner number other e.1) is)
    go (inr e) = are id other e

pub type_noted : (t : Types) (before now : List Shape) (walk then : ShapeWalk) (ty number : ℕ) → Finds t before walk now number (type_shape t ty)
    → then.types.items ≡ set walk.types.items ty (Some number) → then.structs.items ≡ walk.structs.items → Finds t before then now number (type_shape t ty)
type_noted t before now walk then ty number h types structs =
    let r = h.walked.remembers in
    record {
      walked = record {
        kept = h.walked.kept;
        remembers = record {
          good = r.good;
          within = r.within;
          type_count = ap length types ∙ set_length walk.types.items ty (Some number) ∙ r.type_count;
          struct_count = ap length structs ∙ r.struct_count;
          types = subst (AreOf now (type_shape t)) (sym types) (of_more now (type_shape t) walk.types.items ty number r.types h.is);
          structs = subst (AreOf now (struct_shape t)) (sym structs) r.structs;
        };
      };
      is = h.is;
    }

pub struct_noted : (t : Types) (before now : List Shape) (walk then : ShapeWalk) (id number : ℕ) → Finds t before walk now number (struct_shape t id)
    → then.structs.items ≡ set walk.structs.items id (Some number) → then.types.items ≡ walk.types.items → Finds t before then now number (struct_shape t id)
struct_noted t before now walk then id number h structs types =
    let r = h.walked.remembers in
    record {
      walked = record {
        kept = h.walked.kept;
        remembers = record {
          good = r.good;
          within = r.within;
          type_count = ap length types ∙ r.type_count;
          struct_count = ap length structs ∙ set_length walk.structs.items id (Some number) ∙ r.struct_count;
          types = subst (AreOf now (type_shape t)) (sym types) r.types;
          structs = subst (AreOf now (struct_shape t)) (sym structs) (of_more now (struct_shape t) walk.structs.items id number r.structs h.is);
        };
      };
      is = h.is;
    }

-- what was remembered is found
pub found_again : (t : Types) (walk : ShapeWalk) (all : List Shape) (number : ℕ) (o : Option Shape) → Remembers t walk all → IsNumber all number o → Finds t all walk all number o
found_again t walk all number o h is = record { walked = walked_none t walk all h; is = is }

-- ---- one behind the other

pub all_none : (t : Types) (walk : ShapeWalk) (all : List Shape) (numbers parts : List ℕ) → numbers ≡ [] → Remembers t walk all → FindsAll t all walk all numbers (map (type_shape t) (take 0 parts))
all_none t walk all numbers parts e h = record { walked = walked_none t walk all h; are = subst (λ (ns : List ℕ). AreNumbers all ns []) (sym e) tt }

-- the next of some types
pub finds_more : (t : Types) (before mid now : List Shape) (walk then : ShapeWalk) (numbers parts : List ℕ) (i part number : ℕ)
    → i < length parts → part ≡ get_or parts i part → FindsAll t before walk mid numbers (map (type_shape t) (take i parts))
    → Finds t mid then now number (type_shape t part) → FindsAll t before then now (numbers ++ number ∷ []) (map (type_shape t) (take (i + 1) parts))
finds_more t before mid now walk then numbers parts i part number lt is h k = record {
  walked = record { kept = λ n s e. k.walked.kept n s (h.walked.kept n s e); remembers = k.walked.remembers };
  are = subst (AreNumbers now (numbers ++ number ∷ []))
      (sym (map-append (type_shape t) (take i parts) (part ∷ [])) ∙ ap (λ (x : ℕ). map (type_shape t) (take i parts ++ x ∷ [])) is ∙ ap (map (type_shape t)) (sym (take_more parts i part lt)))
      (numbers_more now numbers (map (type_shape t) (take i parts)) number (type_shape t part) (numbers_kept mid now k.walked.kept numbers (map (type_shape t) (take i parts)) h.are) k.is);
}

pub finds_all : (t : Types) (before now : List Shape) (walk : ShapeWalk) (numbers parts : List ℕ) (i : ℕ)
    → length parts ≤ i → FindsAll t before walk now numbers (map (type_shape t) (take i parts)) → FindsAll t before walk now numbers (map (type_shape t) parts)
finds_all t before now walk numbers parts i le h = subst (λ (ps : List ℕ). FindsAll t before walk now numbers (map (type_shape t) ps)) (take_all i parts le) h

pub all_below_more : (parts : List ℕ) (bound larger : ℕ) → bound ≤ larger → All (λ part. part < bound) parts → All (λ part. part < larger) parts
all_below_more parts bound larger le h = λ k d lt. let here = h k d lt in omega (arith, here, le)

-- What is known of a constant is what the definitions say of it, from what is known of the constants in it.
use Rattle.std.proofs.Common.{◌≡◌, ℕ, zero, suc, ◌+◌, ◌-◌, ◌==◌, Bool, true, false, not, ◌&&◌, ◌||◌, List, [], ◌∷◌, ◌++◌, map, length, get_or, Some, refl, sym, ap, ◌∙◌, arith, true≢false}
use Rattle.std.specs.Prelude.{flat_map, nat_lt}
use Rattle.std.specs.List.{fold, list_all, list_any}
use Rattle.std.specs.Cmp.{unsigned_Decides}
use Rattle.std.proofs.lemmas.List.Folds.{list_all-append}
use Rattle.type_table.proofs.UnderIds.{get_or-map}
use Rattle.type_table.specs.Tree.{Tree, void, no_trees, more_trees, Structs}
use Rattle.module_arena.specs.Module.{Bytes, Constant, Constants, Module}
use Rattle.module_arena.specs.Module.Constant.{Integer, Truth, Null, Undef, Poison, ZeroInitializer, Address, ByteString, Aggregate, ElementAddress, Cast, Binary}
use Rattle.module_arena.specs.Module.Constants.{no_constants, more_constants}
use Rattle.module_arena.specs.Constants.{Typed, Expected, each, these, as_written, nothing, constants_in, constants_of, address_in, expected, is_cast_between, element_operands_fit, fits, parts_fit}
use Rattle.module_arena.specs.EntryRules.{is_only_called, takes_no_intrinsic, constant_types, types_written_suit, constant_types_suit}
use Rattle.module_arena.specs.Same.{same_type}
use Rattle.module_arena.specs.TypeTests.{is_integer, is_pointer, opened}
use Rattle.entry_verify.specs.declared.constants.constants.ConstFact.{ConstFact}
use Rattle.entry_verify.specs.Constants.ConstantParts.{typed_list, parts_in, are_types, have_types, fits_outside, fits_within, own_address_passes, all_pass, both_constant_facts, const_fact, part_fact, own_fact}
use Rattle.std.proofs.lemmas.Bool.{false_from_ne_true}
use Rattle.std.proofs.lemmas.Bool.Decides.{Decides-ltb, same_from_decides}
use Rattle.std.proofs.lemmas.Grind.{fold-append}
use Rattle.std.proofs.lemmas.List.{map-append}
use Rattle.std.proofs.Common.{take, slice_get}
use Rattle.type_table.proofs.Steps.{take_next}
use Rattle.type_table.specs.Types.{structs as structs_of}
use Rattle.type_table.proofs.ShapeMeasures.{and_assoc}
use Rattle.module_arena.specs.Lists.{Lists}
use Rattle.module_arena.specs.View.{module_of}

pub and_true : (b : Bool) → (b && true) ≡ b
and_true true = refl
and_true false = refl

-- ---- addresses

module _ (m : Module) where
  named : List Typed → Bool
  named ps = not (list_any (is_only_called m) (flat_map address_in ps))

  -- names in front of both
  behind : (ns rest whole : List Bytes) (last : Bool) → not (list_any (is_only_called m) whole) ≡ (not (list_any (is_only_called m) rest) && last)
      → not (list_any (is_only_called m) (ns ++ whole)) ≡ (not (list_any (is_only_called m) (ns ++ rest)) && last)
  behind [] rest whole last e = e
  behind (n ∷ ns) rest whole last e = by_name (is_only_called m n) (list_any (is_only_called m) (ns ++ whole)) (list_any (is_only_called m) (ns ++ rest)) last (behind ns rest whole last e)
    where
      by_name : (b x y last : Bool) → not x ≡ (not y && last) → not (b || x) ≡ (not (b || y) && last)
      by_name true x y last h = refl
      by_name false x y last h = h

  named_joined : (ps qs : List Typed) → named (ps ++ qs) ≡ (named ps && named qs)
  unfolding named
  named_joined [] qs = refl
  named_joined (p ∷ ps) qs = behind (address_in p) (flat_map address_in ps) (flat_map address_in (ps ++ qs)) (named qs) (named_joined ps qs)

  -- the type that is written plays no part
  pub any_type : (t : Tree) (c : Constant) → takes_no_intrinsic m void c ≡ takes_no_intrinsic m t c
  any_type t (Integer n) = refl
  any_type t (Truth b) = refl
  any_type t Null = refl
  any_type t Undef = refl
  any_type t Poison = refl
  any_type t ZeroInitializer = refl
  any_type t (Address name) = refl
  any_type t (ByteString bytes) = refl
  any_type t (Aggregate b es) = refl
  any_type t (ElementAddress f s os) = refl
  any_type t (Cast o from v to) = refl
  any_type t (Binary o f a l b r) = refl

  parts_named : (cs : Constants) → named (constants_of cs) ≡ list_all (λ (p : Typed). takes_no_intrinsic m void p.1) (typed_list cs)
  unfolding named
  parts_named no_constants = refl
  parts_named (more_constants t c cs) =
      named_joined (constants_in t c) (constants_of cs) ∙ (λ j. sym (any_type t c) j && parts_named cs j)

  pub addresses_told : (c : Constant) → takes_no_intrinsic m void c ≡ (own_address_passes m c && list_all (λ (p : Typed). takes_no_intrinsic m void p.1) (parts_in c))
  unfolding named
  addresses_told (Integer n) = refl
  addresses_told (Truth b) = refl
  addresses_told Null = refl
  addresses_told Undef = refl
  addresses_told Poison = refl
  addresses_told ZeroInitializer = refl
  addresses_told (Address name) = by (is_only_called m name)
    where
      by : (b : Bool) → not (b || false) ≡ (not b && true)
      by true = refl
      by false = refl
  addresses_told (ByteString bytes) = refl
  addresses_told (Aggregate b es) = parts_named es
  addresses_told (ElementAddress f s os) = parts_named os
  addresses_told (Cast o from v to) = sym (any_type from v) ∙ sym (and_true (takes_no_intrinsic m void v))
  addresses_told (Binary o f a l b r) =
      named_joined (constants_in a l) (constants_in b r)
      ∙ (λ j. sym (any_type a l) j && (sym (any_type b r) ∙ sym (and_true (takes_no_intrinsic m void r))) j)

-- ---- types

module _ (structs : Structs) where
  pub any_written : (t : Tree) (c : Constant) → constant_types_suit structs void c ≡ constant_types_suit structs t c
  any_written t (Integer n) = refl
  any_written t (Truth b) = refl
  any_written t Null = refl
  any_written t Undef = refl
  any_written t Poison = refl
  any_written t ZeroInitializer = refl
  any_written t (Address name) = refl
  any_written t (ByteString bytes) = refl
  any_written t (Aggregate b es) = refl
  any_written t (ElementAddress f s os) = refl
  any_written t (Cast o from v to) = refl
  any_written t (Binary o f a l b r) = refl

  parts_written : (cs : Constants) → list_all (types_written_suit structs) (constants_of cs) ≡ list_all (λ (p : Typed). constant_types_suit structs void p.1) (typed_list cs)
  parts_written no_constants = refl
  parts_written (more_constants t c cs) =
      list_all-append (types_written_suit structs) (constants_in t c) (constants_of cs) ∙ (λ j. sym (any_written t c) j && parts_written cs j)

  pub types_told : (c : Constant) → constant_types_suit structs void c ≡ (types_written_suit structs (void, c) && list_all (λ (p : Typed). constant_types_suit structs void p.1) (parts_in c))
  types_told (Integer n) = refl
  types_told (Truth b) = refl
  types_told Null = refl
  types_told Undef = refl
  types_told Poison = refl
  types_told ZeroInitializer = refl
  types_told (Address name) = refl
  types_told (ByteString bytes) = refl
  types_told (Aggregate b es) = ap (λ x. types_written_suit structs (void, Aggregate b es) && x) (parts_written es)
  types_told (ElementAddress f s os) = ap (λ x. types_written_suit structs (void, ElementAddress f s os) && x) (parts_written os)
  types_told (Cast o from v to) =
      ap (λ x. types_written_suit structs (void, Cast o from v to) && x) (sym (any_written from v) ∙ sym (and_true (constant_types_suit structs void v)))
  types_told (Binary o f a l b r) =
      ap (λ x. types_written_suit structs (void, Binary o f a l b r) && x)
      (list_all-append (types_written_suit structs) (constants_in a l) (constants_in b r)
      ∙ (λ j. sym (any_written a l) j && (sym (any_written b r) ∙ sym (and_true (constant_types_suit structs void r))) j))

  -- ---- what fits

  shuffle : (n s f x a p : Bool) → n ≡ x → (s && (f && ((x && a) && p))) ≡ ((n && (s && a)) && (f && p))
  shuffle true true true true a p e = refl
  shuffle true true true false a p e = absurd (true≢false e)
  shuffle false true true true a p e = absurd (true≢false (sym e))
  shuffle false true true false a p e = refl
  shuffle true false f x a p e = refl
  shuffle false false f x a p e = refl
  shuffle true true false x true p e = refl
  shuffle true true false x false p e = refl
  shuffle false true false x a p e = refl

  same_suc : (n m : ℕ) → (suc n == suc m) ≡ (n == m)
  same_suc n m = same_from_decides (suc n == suc m) (n == m) (to, from) (unsigned_Decides n m)
    where
      to : (suc n == suc m) ≡ true → n ≡ m
      to e = let q = (unsigned_Decides (suc n) (suc m)).0 e in omega (arith, q)

      from : n ≡ m → (suc n == suc m) ≡ true
      from e = (unsigned_Decides (suc n) (suc m)).1 (ap suc e)

  zero_suc : (m : ℕ) → (0 == suc m) ≡ false
  zero_suc m = false_from_ne_true (0 == suc m) (λ e. let q = (unsigned_Decides 0 (suc m)).0 e in absurd (omega (arith, q)))

  none_below : nat_lt 0 0 ≡ false
  none_below = refl

  positive : (n : ℕ) → nat_lt 0 (suc n) ≡ true
  positive n = (Decides-ltb 0 (suc n)).1 (omega arith)

  less_one : (n : ℕ) → suc n - 1 ≡ n
  less_one n = omega arith

  list_told : (e : Expected) (cs : Constants) → parts_fit structs e cs ≡ (have_types e (constant_types cs) && list_all (λ (p : Typed). fits structs p.0 p.1) (typed_list cs))
  list_told (each n t) no_constants = sym (and_true ((n == 0) && true) ∙ and_true (n == 0))
  list_told (each zero t) (more_constants u c cs) =
      ap (λ b. b && (same_type t u && (fits structs u c && parts_fit structs (each (0 - 1) t) cs))) none_below
      ∙ sym (ap (λ b. (b && (same_type t u && list_all (same_type t) (constant_types cs))) && (fits structs u c && list_all (λ (p : Typed). fits structs p.0 p.1) (typed_list cs))) (zero_suc (length (constant_types cs))))
  list_told (each (suc n) t) (more_constants u c cs) =
      (λ j. positive n j && (same_type t u && (fits structs u c && parts_fit structs (each (less_one n j) t) cs)))
      ∙ ap (λ x. same_type t u && (fits structs u c && x)) (list_told (each n t) cs)
      ∙ shuffle (suc n == suc (length (constant_types cs))) (same_type t u) (fits structs u c) (n == length (constant_types cs)) (list_all (same_type t) (constant_types cs)) (list_all (λ (p : Typed). fits structs p.0 p.1) (typed_list cs))
      (same_suc n (length (constant_types cs)))
  list_told (these no_trees) no_constants = refl
  list_told (these no_trees) (more_constants u c cs) = refl
  list_told (these (more_trees t ts)) no_constants = refl
  list_told (these (more_trees t ts)) (more_constants u c cs) =
      ap (λ x. same_type t u && (fits structs u c && x)) (list_told (these ts) cs)
      ∙ turned (same_type t u) (fits structs u c) (are_types ts (constant_types cs)) (list_all (λ (p : Typed). fits structs p.0 p.1) (typed_list cs))
    where
      turned : (s f a p : Bool) → (s && (f && (a && p))) ≡ ((s && a) && (f && p))
      turned true true a p = refl
      turned true false true p = refl
      turned true false false p = refl
      turned false f a p = refl
  list_told as_written no_constants = refl
  list_told as_written (more_constants u c cs) = ap (λ x. fits structs u c && x) (list_told as_written cs)
  list_told nothing no_constants = refl
  list_told nothing (more_constants u c cs) = refl

  pub fits_told : (t : Tree) (c : Constant) → fits structs t c ≡ (fits_outside structs t c && fits_within structs c)
  fits_told t (Integer n) = sym (and_true (is_integer t))
  fits_told t (Truth b) = sym (and_true _)
  fits_told t Null = sym (and_true (is_pointer t))
  fits_told t Undef = refl
  fits_told t Poison = refl
  fits_told t ZeroInitializer = refl
  fits_told t (Address name) = sym (and_true (is_pointer t))
  fits_told t (ByteString bytes) = sym (and_true _)
  fits_told t (Aggregate b es) = list_told (expected b (opened structs t)) es
  fits_told t (ElementAddress f s os) = ap (λ x. is_pointer t && (element_operands_fit structs s os && x)) (list_told as_written os)
  fits_told t (Cast o from v to) = ap (λ x. same_type t to && (is_cast_between o from to && x)) (sym (and_true (fits structs from v)))
  fits_told t (Binary o f a l b r) =
      pairs (is_integer t) (same_type t a) (same_type t b) (fits structs a l) (fits structs b r)
    where
      pairs : (i a b l r : Bool) → (i && (a && (b && (l && r)))) ≡ ((i && (a && b)) && (true && (l && (r && true))))
      pairs false a b l r = refl
      pairs true false b l r = refl
      pairs true true false l r = refl
      pairs true true true false r = refl
      pairs true true true true true = refl
      pairs true true true true false = refl

-- ---- all of it

module _ (m : Module) where
  gathered : (f : ConstFact) (ps : List Typed) → fold both_constant_facts f (map (part_fact m) ps) ≡ record {
    takes_no_intrinsic = f.takes_no_intrinsic && list_all (λ (p : Typed). takes_no_intrinsic m void p.1) ps;
    types_suit = f.types_suit && list_all (λ (p : Typed). constant_types_suit m.structs void p.1) ps;
    parts_fit = f.parts_fit && list_all (λ (p : Typed). fits m.structs p.0 p.1) ps;
  }
  gathered f [] = λ j. record {
    takes_no_intrinsic = sym (and_true f.takes_no_intrinsic) j;
    types_suit = sym (and_true f.types_suit) j;
    parts_fit = sym (and_true f.parts_fit) j;
  }
  gathered f (p ∷ ps) =
      gathered (both_constant_facts f (part_fact m p)) ps
      ∙ (λ j. record {
        takes_no_intrinsic = and_assoc f.takes_no_intrinsic (takes_no_intrinsic m void p.1) (list_all (λ (q : Typed). takes_no_intrinsic m void q.1) ps) j;
        types_suit = and_assoc f.types_suit (constant_types_suit m.structs void p.1) (list_all (λ (q : Typed). constant_types_suit m.structs void q.1) ps) j;
        parts_fit = and_assoc f.parts_fit (fits m.structs p.0 p.1) (list_all (λ (q : Typed). fits m.structs q.0 q.1) ps) j;
      })

  pub fact_told : (c : Constant) → const_fact m c ≡ both_constant_facts (own_fact m c) (fold both_constant_facts all_pass (map (part_fact m) (parts_in c)))
  fact_told c =
      (λ j. record {
        takes_no_intrinsic = addresses_told m c j;
        types_suit = types_told m.structs c j;
        parts_fit = fits_within m.structs c;
      })
      ∙ ap (both_constant_facts (own_fact m c)) (sym (gathered all_pass (parts_in c)))

-- a fact by its id
pub fact_here : (m : Module) (cs : List Constant) (facts seen : List ConstFact) (id : ℕ) (f : ConstFact) → f ≡ get_or seen id all_pass → seen ≡ facts → facts ≡ map (const_fact m) cs
    → f ≡ const_fact m (get_or cs id Null)
fact_here m cs facts seen id f read same told = read ∙ ap (λ fs. get_or fs id all_pass) (same ∙ told) ∙ get_or-map (const_fact m) cs id Null

-- the structs of the module are those of the arena
pub own_structs : (a : Lists) → (module_of a).structs ≡ structs_of a.table
unfolding module_of
own_structs a = refl

-- one fact more
pub facts_next : {X : Type 0} (f : X → ConstFact) (xs : List X) (i : ℕ) (x : X) → slice_get xs i ≡ Some x
    → fold both_constant_facts all_pass (map f (take (i + 1) xs)) ≡ both_constant_facts (fold both_constant_facts all_pass (map f (take i xs))) (f x)
facts_next f xs i x e =
    ap (λ ys. fold both_constant_facts all_pass (map f ys)) (take_next xs i x e)
    ∙ ap (fold both_constant_facts all_pass) (map-append f (take i xs) (x ∷ []))
    ∙ fold-append both_constant_facts all_pass (map f (take i xs)) (f x ∷ [])

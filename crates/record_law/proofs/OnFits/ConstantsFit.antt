-- The constants and values of a well-formed and valid module are read of what they spell.
use Rattle.std.proofs.Common.{◌≡◌, ◌⊎◌, ℕ, zero, suc, ◌-◌, ◌<◌, ◌≤◌, Bool, true, false, ◌&&◌, not, List, [], ◌∷◌, ◌++◌, map, refl, sym, ap, subst, arith, inl, inr}
use Rattle.std.specs.Prelude.{bytes_eq, nat_eq, nat_lt, nat_le}
use Rattle.std.specs.List.{list_all, list_any, AllByRecursion}
use Rattle.std.proofs.lemmas.Bool.{and_parts, or_cases, or_left, or_right, both_ways, not_from_true, false≢true, eq-eqb, eqb-true, ltb-true, leb-true}
use Rattle.std.proofs.lemmas.Slice.Eq.{bytes_eq-Decides}
use Rattle.ir_tables.specs.declared.opcode.Opcode.TheVariants as op
use Rattle.type_table.specs.Tree.{Tree, int, ptr, void, array, struct, named, Trees, no_trees, more_trees, TreeBody, opaque_body, fields, Structs, body_of}
use Rattle.module_arena.specs.Module.{Bytes, LocalName, Numbered, Brackets, Square, Braces, Packed, Constant, Integer, Truth, Null, Undef, Poison, ZeroInitializer, Address, ByteString, Aggregate, ElementAddress, Cast, Binary, Constants, no_constants, more_constants, Value, Local, Known, Module}
use Rattle.module_arena.specs.Same.{same_type, same_local, has_local}
use Rattle.module_arena.specs.TypeTests.{is_integer, is_integer_of, is_pointer, opened, struct_of_body}
use Rattle.module_arena.specs.Constants.{Typed, Expected, each, these, as_written, nothing, expected, fits, parts_fit, element_operands_fit, is_cast_between, constants_in, constants_of, indices_fit, index_constants}
use Rattle.module_arena.specs.Forms.{are_flags_of, is_constant_binary, is_constant_of_phrase, has_constants}
use Rattle.module_arena.specs.Names.{are_bytes}
use Rattle.module_arena.specs.Operations.{local_in}
use Rattle.module_arena.specs.WellFormed.{is_good_type, type_in_constant, is_in_range, names_an_entry, has_entry, is_good_part, depth, greatest_depth, is_good_constant, known_in}
use Rattle.module_arena.specs.ValueRules.{value_fits}
use Rattle.module_arena.proofs.SameNames.{same_is, same_self}
use Rattle.module_arena.proofs.SameValues.{type_is, type_self}
use Rattle.record_table.specs.Fields.{Numbering}
use Rattle.record_table.specs.Listed.{IsListed, IsType}
use Rattle.record_table.specs.Constants.{Parts, alike, parts_of, body_parts, has_parts, brackets_of, count_constants, how_many}
use Rattle.record_table.specs.Constants as records
use Rattle.record_table.specs.FittingConstants.{Fits, AreParts, AreOperands, AreTyped, ValueFits}
use Rattle.record_table.specs.Mentions.{in_constant, in_constants, in_value, mentioned}
use Rattle.record_table.specs.Spelling.{numbering}
use Rattle.record_law.proofs.OnTypes.Places.{is_listed}
use Rattle.record_law.proofs.OnTypes.Tests.{all_front, all_rest, each_passes, front_of, rest_of}
use Rattle.record_law.proofs.OnTypes.TypesInOrder.{has}
use Rattle.record_law.proofs.OnFits.Among.{any_front, any_rest, any_either}

-- ---- what a list is made of, as validity and as records say it
data Agrees : Brackets → Expected → Parts → Type 0 where
  of_array : {n : ℕ} {t : Tree} → Agrees Square (each n t) (alike n t)
  of_struct : {ts : Trees} → Agrees Braces (these ts) (records.these false ts)
  of_packed : {ts : Trees} → Agrees Packed (these ts) (records.these true ts)

struct_agrees : (round : Brackets) (packed : Bool) (ts : Trees) → (expected round (struct packed ts) ≡ nothing) ⊎ Agrees round (expected round (struct packed ts)) (records.these packed ts)
struct_agrees Square true ts = inl refl
struct_agrees Square false ts = inl refl
struct_agrees Braces true ts = inl refl
struct_agrees Braces false ts = inr of_struct
struct_agrees Packed true ts = inr of_packed
struct_agrees Packed false ts = inl refl

array_agrees : (round : Brackets) (n : ℕ) (t : Tree) → (expected round (array n t) ≡ nothing) ⊎ Agrees round (expected round (array n t)) (alike n t)
array_agrees Square n t = inr of_array
array_agrees Braces n t = inl refl
array_agrees Packed n t = inl refl

none_expected : (round : Brackets) (name : Bytes) → expected round (named name) ≡ nothing
none_expected Square name = refl
none_expected Braces name = refl
none_expected Packed name = refl

body_agrees : (round : Brackets) (name : Bytes) (b : TreeBody) → (expected round (struct_of_body name b) ≡ nothing) ⊎ Agrees round (expected round (struct_of_body name b)) (body_parts b)
body_agrees round name opaque_body = inl (none_expected round name)
body_agrees round name (fields packed ts) = struct_agrees round packed ts

int_expected : (round : Brackets) (w : ℕ) → expected round (int w) ≡ nothing
int_expected Square w = refl
int_expected Braces w = refl
int_expected Packed w = refl

ptr_expected : (round : Brackets) → expected round ptr ≡ nothing
ptr_expected Square = refl
ptr_expected Braces = refl
ptr_expected Packed = refl

void_expected : (round : Brackets) → expected round void ≡ nothing
void_expected Square = refl
void_expected Braces = refl
void_expected Packed = refl

agrees : (structs : Structs) (round : Brackets) (t : Tree) → (expected round (opened structs t) ≡ nothing) ⊎ Agrees round (expected round (opened structs t)) (parts_of structs t)
agrees structs round (int w) = inl (int_expected round w)
agrees structs round ptr = inl (ptr_expected round)
agrees structs round void = inl (void_expected round)
agrees structs round (array n t) = array_agrees round n t
agrees structs round (struct packed ts) = struct_agrees round packed ts
agrees structs round (named name) = body_agrees round name (body_of structs name)

nothing_fits : (structs : Structs) (cs : Constants) → parts_fit structs nothing cs ≡ true → ⊥
nothing_fits structs no_constants h = false≢true h
nothing_fits structs (more_constants t c cs) h = false≢true h

one_less : (n count : ℕ) → nat_lt 0 n ≡ true → nat_eq (n - 1) count ≡ true → nat_eq n (suc count) ≡ true
one_less n count some same =
    let positive : 0 < n = ltb-true 0 n some in
    let is : n - 1 ≡ count = eqb-true (n - 1) count same in
    eq-eqb n (suc count) (omega (arith, positive, is))

-- what is asked of truths and bytes, whatever the type
truth_range : (t : Tree) (b : Bool) → is_in_range t (Truth b) ≡ true → not (is_integer_of 1 t) ≡ true
truth_range (int width) b h = h
truth_range ptr b h = h
truth_range void b h = h
truth_range (array n t) b h = h
truth_range (struct packed ts) b h = h
truth_range (named name) b h = h

bytes_range : (t : Tree) (bytes : Bytes) → is_in_range t (ByteString bytes) ≡ true → are_bytes bytes ≡ true
bytes_range (int width) bytes h = h
bytes_range ptr bytes h = h
bytes_range void bytes h = h
bytes_range (array n t) bytes h = h
bytes_range (struct packed ts) bytes h = h
bytes_range (named name) bytes h = h

each_count : (structs : Structs) (n : ℕ) (t : Tree) (cs : Constants) → parts_fit structs (each n t) cs ≡ true → nat_eq n (count_constants cs) ≡ true
each_count structs n t no_constants h = h
each_count structs n t (more_constants u c cs) h =
    let p = and_parts (nat_lt 0 n) (same_type t u && (fits structs u c && parts_fit structs (each (n - 1) t) cs)) h in
    let q = and_parts (fits structs u c) (parts_fit structs (each (n - 1) t) cs) (and_parts (same_type t u) (fits structs u c && parts_fit structs (each (n - 1) t) cs) p.1).1 in
    one_less n (count_constants cs) p.0 (each_count structs (n - 1) t cs q.1)

these_count : (structs : Structs) (ts : Trees) (cs : Constants) → parts_fit structs (these ts) cs ≡ true → nat_eq (how_many ts) (count_constants cs) ≡ true
these_count structs no_trees no_constants h = refl
these_count structs no_trees (more_constants u c cs) h = absurd (false≢true h)
these_count structs (more_trees t ts) no_constants h = absurd (false≢true h)
these_count structs (more_trees t ts) (more_constants u c cs) h =
    let q = and_parts (fits structs u c) (parts_fit structs (these ts) cs) (and_parts (same_type t u) (fits structs u c && parts_fit structs (these ts) cs) h).1 in
    let same = eqb-true (how_many ts) (count_constants cs) (these_count structs ts cs q.1) in
    eq-eqb (suc (how_many ts)) (suc (count_constants cs)) (ap suc same)

-- `ptr` alone is a pointer
pub pointer_is : (t : Tree) → is_pointer t ≡ true → t ≡ ptr
pointer_is (int width) h = absurd (false≢true h)
pointer_is ptr h = refl
pointer_is void h = absurd (false≢true h)
pointer_is (array n t) h = absurd (false≢true h)
pointer_is (struct packed ts) h = absurd (false≢true h)
pointer_is (named name) h = absurd (false≢true h)

module _ (m : Module) (values blocks : List LocalName) where
  -- what indices stand for in a body with these names
  abbrev pub here : Numbering
  here = record (numbering m) { values = values; blocks = blocks }

  pub type_listed : (t : Tree) → has (mentioned m) t ≡ true → IsType here t
  type_listed t there = is_listed same_type type_is type_self (mentioned m) void t there

  -- a name of the module is one that indices stand for
  entry_among : (name : Bytes) → has_entry m name ≡ true → list_any (bytes_eq name) here.globals ≡ true
  entry_among name h =
      let vs = map (λ v. v.name) m.variables in
      let fs = map (λ f. f.name) m.functions in
      let as_ = map (λ a. a.name) m.aliases in
      elim (any_either (bytes_eq name) vs (as_ ++ fs) h) [
        | inl v ↦ any_front (bytes_eq name) (vs ++ fs) as_ (any_front (bytes_eq name) vs fs v)
        | inr others ↦ elim (any_either (bytes_eq name) as_ fs others) [
          | inl a ↦ any_rest (bytes_eq name) (vs ++ fs) as_ a
          | inr f ↦ any_front (bytes_eq name) (vs ++ fs) as_ (any_rest (bytes_eq name) vs fs f)
        ]
      ]

  bytes_is : (x y : Bytes) → bytes_eq x y ≡ true → x ≡ y
  bytes_is x y e = (bytes_eq-Decides x y).0 e

  bytes_self : (x : Bytes) → bytes_eq x x ≡ true
  bytes_self x = (bytes_eq-Decides x x).1 refl

  pub global_listed : (name : Bytes) → list_any (bytes_eq name) here.globals ≡ true → IsListed bytes_eq here.globals [] name
  global_listed name h = is_listed bytes_eq bytes_is bytes_self here.globals [] name h

  pub target_listed : (name : Bytes) → list_any (bytes_eq name) here.targets ≡ true → IsListed bytes_eq here.targets [] name
  target_listed name h = is_listed bytes_eq bytes_is bytes_self here.targets [] name h

  abbrev AreGoodParts : List Typed → Type 0
  AreGoodParts ts = list_all (is_good_part m) ts ≡ true

  -- of one constant and those in it
  record PartsOf (t : Tree) (c : Constant) (others : List Typed) : Type 0 where
    pub range : is_in_range t c ≡ true
    pub phrase : is_constant_of_phrase c ≡ true
    pub named : names_an_entry m c ≡ true
    pub inside : AreGoodParts others

  parts : (t : Tree) (c : Constant) (others : List Typed) → AreGoodParts ((t, c) ∷ others) → PartsOf t c others
  parts t c others g =
      let p = and_parts (is_good_part m (t, c)) (list_all (is_good_part m) others) g in
      let a = and_parts (is_good_type m.structs t) (list_all (is_good_type m.structs) (type_in_constant c) && (is_in_range t c && (is_constant_of_phrase c && names_an_entry m c))) p.0 in
      let b = and_parts (list_all (is_good_type m.structs) (type_in_constant c)) (is_in_range t c && (is_constant_of_phrase c && names_an_entry m c)) a.1 in
      let d = and_parts (is_in_range t c) (is_constant_of_phrase c && names_an_entry m c) b.1 in
      let e = and_parts (is_constant_of_phrase c) (names_an_entry m c) d.1 in
      record { range = d.0; phrase = e.0; named = e.1; inside = p.1 }

  abbrev There : List Tree → Type 0
  There ts = AllByRecursion (λ t. has (mentioned m) t ≡ true) ts

  -- a list, by what is asked of its parts
  by_agreement : (round : Brackets) (cs : Constants) (deep : ℕ) (e : Expected) (ps : Parts) → (e ≡ nothing) ⊎ Agrees round e ps → parts_fit m.structs e cs ≡ true
      → ((n k : ℕ) (t : Tree) → parts_fit m.structs (each n t) cs ≡ true → AreParts here cs deep (alike k t))
      → ((packed : Bool) (ts : Trees) → parts_fit m.structs (these ts) cs ≡ true → AreParts here cs deep (records.these packed ts))
      → (has_parts ps (count_constants cs) ≡ true) × (brackets_of ps ≡ round) × AreParts here cs deep ps
  by_agreement round cs deep e ps (inl none) f of_alike of_these = absurd (nothing_fits m.structs cs (subst (λ (x : Expected). parts_fit m.structs x cs ≡ true) none f))
  by_agreement round cs deep e ps (inr (of_array {n = n} {t = u})) f of_alike of_these = (each_count m.structs n u cs f, refl, of_alike n n u f)
  by_agreement round cs deep e ps (inr (of_struct {ts = ts})) f of_alike of_these = (these_count m.structs ts cs f, refl, of_these false ts f)
  by_agreement round cs deep e ps (inr (of_packed {ts = ts})) f of_alike of_these = (these_count m.structs ts cs f, refl, of_these true ts f)

  mutual
    -- a constant that fits its type, of good parts, which nests not deeper than that
    pub constant_fits : (c : Constant) (deep : ℕ) (t : Tree) → fits m.structs t c ≡ true → AreGoodParts (constants_in t c) → depth c ≤ deep → There (in_constant c) → Fits here c deep t
    constant_fits (Integer n) deep (int w) f g d there = (parts (int w) (Integer n) [] g).range
    constant_fits (Integer n) deep ptr f g d there = absurd (false≢true f)
    constant_fits (Integer n) deep void f g d there = absurd (false≢true f)
    constant_fits (Integer n) deep (array k t) f g d there = absurd (false≢true f)
    constant_fits (Integer n) deep (struct packed ts) f g d there = absurd (false≢true f)
    constant_fits (Integer n) deep (named name) f g d there = absurd (false≢true f)
    constant_fits (Truth b) deep t f g d there = absurd (both_ways (not (is_integer_of 1 t)) (not_from_true (is_integer_of 1 t) f) (truth_range t b (parts t (Truth b) [] g).range))
    constant_fits Null deep t f g d there = f
    constant_fits Undef deep t f g d there = tt
    constant_fits Poison deep t f g d there = tt
    constant_fits ZeroInitializer deep t f g d there = tt
    constant_fits (Address name) deep t f g d there = (f, global_listed name (entry_among name (parts t (Address name) [] g).named))
    constant_fits (ByteString bytes) deep t f g d there = (f, each_passes (λ b. nat_lt b 256) bytes (bytes_range t bytes (parts t (ByteString bytes) [] g).range))
    constant_fits (Aggregate round cs) zero t f g d there = absurd (omega (arith, d))
    constant_fits (Aggregate round cs) (suc deep) t f g d there =
        let inner = (parts t (Aggregate round cs) (constants_of cs) g).inside in
        let below : greatest_depth cs ≤ deep = omega (arith, d) in
        by_agreement round cs deep (expected round (opened m.structs t)) (parts_of m.structs t) (agrees m.structs round t) f
        (λ n k u h. alike_parts n k u cs deep h inner below there) (λ packed ts h. these_parts packed ts cs deep h inner below there)
    constant_fits (ElementAddress set source cs) zero t f g d there = absurd (omega (arith, d))
    constant_fits (ElementAddress set source cs) (suc deep) t f g d there =
        let p = and_parts (is_pointer t) (element_operands_fit m.structs source cs && parts_fit m.structs as_written cs) f in
        let q = and_parts (element_operands_fit m.structs source cs) (parts_fit m.structs as_written cs) p.1 in
        let own = parts t (ElementAddress set source cs) (constants_of cs) g in
        let flags = (and_parts (are_flags_of op.GetElementPtr set) (has_constants cs) own.phrase).0 in
        (p.0, flags, type_listed source there.0, operands_fit source cs deep q.0 q.1 own.inside (omega (arith, d)) there.1)
    constant_fits (Cast o from c to) zero t f g d there = absurd (omega (arith, d))
    constant_fits (Cast o from c to) (suc deep) t f g d there =
        let p = and_parts (same_type t to) (is_cast_between o from to && fits m.structs from c) f in
        let q = and_parts (is_cast_between o from to) (fits m.structs from c) p.1 in
        let own = parts t (Cast o from c to) (constants_in from c) g in
        let inside = front_of (λ t. has (mentioned m) t ≡ true) (in_constant c) (to ∷ []) there.1 in
        (own.phrase, type_listed from there.0, sym (type_is t to p.0), constant_fits c deep from q.1 own.inside (omega (arith, d)) inside)
    constant_fits (Binary o set a x b y) zero t f g d there = absurd (omega (arith, d))
    constant_fits (Binary o set a x b y) (suc deep) t f g d there =
        let p = and_parts (same_type t a) (same_type t b && (fits m.structs a x && fits m.structs b y)) (and_parts (is_integer t) (same_type t a && (same_type t b && (fits m.structs a x && fits m.structs b y))) f).1 in
        let q = and_parts (same_type t b) (fits m.structs a x && fits m.structs b y) p.1 in
        let r = and_parts (fits m.structs a x) (fits m.structs b y) q.1 in
        let own = parts t (Binary o set a x b y) (constants_in a x ++ constants_in b y) g in
        let form = and_parts (is_constant_binary o) (are_flags_of o set) own.phrase in
        let left : a ≡ t = sym (type_is t a p.0) in
        let right : b ≡ t = sym (type_is t b q.0) in
        let front = front_of (λ t. has (mentioned m) t ≡ true) (in_constant x) (b ∷ in_constant y) there.1 in
        let rest = rest_of (λ t. has (mentioned m) t ≡ true) (in_constant x) (b ∷ in_constant y) there.1 in
        let one = constant_fits x deep a r.0 (all_front (is_good_part m) (constants_in a x) (constants_in b y) own.inside) (omega (arith, d)) front in
        let other = constant_fits y deep b r.1 (all_rest (is_good_part m) (constants_in a x) (constants_in b y) own.inside) (omega (arith, d)) rest.1 in
        (form.0, form.1, left, right, (subst (λ (u : Tree). Fits here x deep u) left one, subst (λ (u : Tree). Fits here y deep u) right other))

    alike_parts : (n k : ℕ) (t : Tree) (cs : Constants) (deep : ℕ) → parts_fit m.structs (each n t) cs ≡ true → AreGoodParts (constants_of cs) → greatest_depth cs ≤ deep → There (in_constants cs) → AreParts here cs deep (alike k t)
    alike_parts n k t no_constants deep f g d there = tt
    alike_parts n k t (more_constants u c cs) deep f g d there =
        let p = and_parts (same_type t u) (fits m.structs u c && parts_fit m.structs (each (n - 1) t) cs) (and_parts (nat_lt 0 n) (same_type t u && (fits m.structs u c && parts_fit m.structs (each (n - 1) t) cs)) f).1 in
        let q = and_parts (fits m.structs u c) (parts_fit m.structs (each (n - 1) t) cs) p.1 in
        let front = front_of (λ t. has (mentioned m) t ≡ true) (u ∷ in_constant c) (in_constants cs) there in
        let rest = rest_of (λ t. has (mentioned m) t ≡ true) (u ∷ in_constant c) (in_constants cs) there in (
          type_is t u p.0,
          constant_fits c deep u q.0 (all_front (is_good_part m) (constants_in u c) (constants_of cs) g) (omega (arith, d)) front.1,
          alike_parts (n - 1) k t cs deep q.1 (all_rest (is_good_part m) (constants_in u c) (constants_of cs) g) (omega (arith, d)) rest,
        )

    these_parts : (packed : Bool) (ts : Trees) (cs : Constants) (deep : ℕ) → parts_fit m.structs (these ts) cs ≡ true → AreGoodParts (constants_of cs) → greatest_depth cs ≤ deep → There (in_constants cs) → AreParts here cs deep (records.these packed ts)
    these_parts packed ts no_constants deep f g d there = tt
    these_parts packed no_trees (more_constants u c cs) deep f g d there = absurd (false≢true f)
    these_parts packed (more_trees t ts) (more_constants u c cs) deep f g d there =
        let p = and_parts (same_type t u) (fits m.structs u c && parts_fit m.structs (these ts) cs) f in
        let q = and_parts (fits m.structs u c) (parts_fit m.structs (these ts) cs) p.1 in
        let front = front_of (λ t. has (mentioned m) t ≡ true) (u ∷ in_constant c) (in_constants cs) there in
        let rest = rest_of (λ t. has (mentioned m) t ≡ true) (u ∷ in_constant c) (in_constants cs) there in (
          type_is t u p.0,
          constant_fits c deep u q.0 (all_front (is_good_part m) (constants_in u c) (constants_of cs) g) (omega (arith, d)) front.1,
          these_parts packed ts cs deep q.1 (all_rest (is_good_part m) (constants_in u c) (constants_of cs) g) (omega (arith, d)) rest,
        )

    operands_fit : (source : Tree) (cs : Constants) (deep : ℕ) → element_operands_fit m.structs source cs ≡ true → parts_fit m.structs as_written cs ≡ true → AreGoodParts (constants_of cs) → greatest_depth cs ≤ deep → There (in_constants cs)
        → AreOperands here cs deep
    operands_fit source no_constants deep e f g d there = absurd (false≢true e)
    operands_fit source (more_constants t c cs) deep e f g d there =
        let q = and_parts (fits m.structs t c) (parts_fit m.structs as_written cs) f in
        let is : t ≡ ptr = pointer_is t (and_parts (is_pointer t) (indices_fit m.structs source (index_constants cs)) e).0 in
        let front = front_of (λ t. has (mentioned m) t ≡ true) (t ∷ in_constant c) (in_constants cs) there in
        let rest = rest_of (λ t. has (mentioned m) t ≡ true) (t ∷ in_constant c) (in_constants cs) there in
        let one = constant_fits c deep t q.0 (all_front (is_good_part m) (constants_in t c) (constants_of cs) g) (omega (arith, d)) front.1 in
        (is, subst (λ (u : Tree). Fits here c deep u) is one, typed_fit cs deep q.1 (all_rest (is_good_part m) (constants_in t c) (constants_of cs) g) (omega (arith, d)) rest)

    typed_fit : (cs : Constants) (deep : ℕ) → parts_fit m.structs as_written cs ≡ true → AreGoodParts (constants_of cs) → greatest_depth cs ≤ deep → There (in_constants cs) → AreTyped here cs deep
    typed_fit no_constants deep f g d there = tt
    typed_fit (more_constants t c cs) deep f g d there =
        let q = and_parts (fits m.structs t c) (parts_fit m.structs as_written cs) f in
        let front = front_of (λ t. has (mentioned m) t ≡ true) (t ∷ in_constant c) (in_constants cs) there in
        let rest = rest_of (λ t. has (mentioned m) t ≡ true) (t ∷ in_constant c) (in_constants cs) there in (
          type_listed t front.0,
          constant_fits c deep t q.0 (all_front (is_good_part m) (constants_in t c) (constants_of cs) g) (omega (arith, d)) front.1,
          typed_fit cs deep q.1 (all_rest (is_good_part m) (constants_in t c) (constants_of cs) g) (omega (arith, d)) rest,
        )

  pub known_fits : (t : Tree) (c : Constant) → fits m.structs t c ≡ true → is_good_constant m (t, c) ≡ true → There (in_constant c) → Fits here c 64 t
  known_fits t c f g there =
      let p = and_parts (nat_le (depth c) 64) (list_all (is_good_part m) (constants_in t c)) g in
      constant_fits c 64 t f p.1 (leb-true (depth c) 64 p.0) there

  -- ---- values

  local_among : (names : List LocalName) (name : LocalName) → has_local names name ≡ true → list_any (same_local name) names ≡ true
  local_among [] name h = h
  local_among (n ∷ names) name h = elim (or_cases (same_local n name) (has_local names name) h) [
    | inl is ↦ or_left (same_local name n) (list_any (same_local name) names) (rw (same_is n name is) (same_self name))
    | inr later ↦ or_right (same_local name n) (list_any (same_local name) names) (local_among names name later)
  ]

  pub local_listed : (names : List LocalName) (name : LocalName) → has_local names name ≡ true → IsListed same_local names (Numbered 0) name
  local_listed names name h = is_listed same_local same_is same_self names (Numbered 0) name (local_among names name h)

  -- a value that fits its type: a good constant, or a local that is there
  pub record IsSoundValue (t : Tree) (v : Value) : Type 0 where
    pub fit : value_fits m.structs t v ≡ true
    pub good : list_all (is_good_constant m) (known_in t v) ≡ true
    pub known : list_all (has_local values) (local_in v) ≡ true

  pub value_back : (t : Tree) (v : Value) → IsSoundValue t v → There (in_value v) → ValueFits here t v
  value_back t (Local name) s there = local_listed values name (and_parts (has_local values name) true s.known).0
  value_back t (Known c) s there = known_fits t c s.fit (and_parts (is_good_constant m (t, c)) true s.good).0 there

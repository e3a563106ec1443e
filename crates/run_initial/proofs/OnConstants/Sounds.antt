-- The constants within a constant that can stand at a type can stand at theirs.
use Rattle.std.proofs.Common.{◌≡◌, ℕ, suc, ◌-◌, ◌<◌, List, [], ◌∷◌, ◌++◌, All, length, Bool, true, ◌&&◌, nat_lt, refl, sym, ap, ◌∙◌, true≢false, arith}
use Rattle.std.specs.Prelude.{⊤}
use Rattle.std.specs.List.{list_all}
use Rattle.std.proofs.lemmas.Bool.{and_parts}
use Rattle.ir_tables.specs.declared.opcode.Opcode.{Opcode}
use Rattle.type_table.specs.Tree.{Tree, no_trees, more_trees}
use Rattle.module_arena.specs.declared.constant.TypedConst.{TypedConst}
use Rattle.module_arena.specs.Constants.{Typed, Expected, each, these, as_written, nothing, expected, parts_fit, element_operands_fit, constants_in, constants_of, fits, is_cast_between}
use Rattle.module_arena.specs.EntryRules.{constant_types, types_written_suit}
use Rattle.module_arena.specs.Forms.{are_flags_of, is_constant_binary, is_constant_of_phrase}
use Rattle.module_arena.specs.Lists.{Lists}
use Rattle.module_arena.specs.Module.{Constant, Brackets, Integer, Aggregate, ElementAddress, Cast, Binary, Constants, no_constants, more_constants, Module}
use Rattle.module_arena.specs.Same.{same_type}
use Rattle.module_arena.specs.TypeTests.{is_integer, is_pointer, is_passable, lies_in_memory, opened}
use Rattle.module_arena.specs.View.{module_of}
use Rattle.module_arena.specs.WellFormed.{is_good_part, is_good_type, is_in_range, names_an_entry, type_in_constant}
use Rattle.module_arena.proofs.SameValues.{type_is}
use Rattle.run_initial.proofs.OnConstants.Within.{all_more}
use Rattle.run_initial.specs.Constants.Sound.{IsPart, IsSound, constants_with_types}

pub front_all : {X : Type 0} (p : X → Bool) (xs ys : List X) → list_all p (xs ++ ys) ≡ true → list_all p xs ≡ true
front_all p [] ys h = refl
front_all p (x ∷ xs) ys h = let q = and_parts (p x) (list_all p (xs ++ ys)) h in ap (λ t. t && list_all p xs) q.0 ∙ front_all p xs ys q.1

pub back_all : {X : Type 0} (p : X → Bool) (xs ys : List X) → list_all p (xs ++ ys) ≡ true → list_all p ys ≡ true
back_all p [] ys h = h
back_all p (x ∷ xs) ys h = back_all p xs ys (and_parts (p x) (list_all p (xs ++ ys)) h).1

module _ (m : Module) where
  -- each of some constants can stand at the type that is written before it
  abbrev pub AreSound : Constants → Type 0
  AreSound no_constants = ⊤
  AreSound (more_constants t c cs) = IsSound m t c × AreSound cs

  -- what is asked of a constant and of all within it
  abbrev AreGood : List Typed → Type 0
  AreGood cs = (list_all (is_good_part m) cs ≡ true) × (list_all (types_written_suit m.structs) cs ≡ true)

  -- the first of some, and the others
  one_of : (t : Tree) (c : Constant) (cs : Constants) → fits m.structs t c ≡ true → AreGood (constants_of (more_constants t c cs)) → IsSound m t c × AreGood (constants_of cs)
  one_of t c cs fit h = (
    record {
      fits = fit;
      good = front_all (is_good_part m) (constants_in t c) (constants_of cs) h.0;
      suits = front_all (types_written_suit m.structs) (constants_in t c) (constants_of cs) h.1;
    },
    (back_all (is_good_part m) (constants_in t c) (constants_of cs) h.0, back_all (types_written_suit m.structs) (constants_in t c) (constants_of cs) h.1),
  )

  -- the parts of a list
  parts_sound : (x : Expected) (cs : Constants) → parts_fit m.structs x cs ≡ true → AreGood (constants_of cs) → AreSound cs
  parts_sound x no_constants h g = tt
  parts_sound (each n u) (more_constants v c cs) h g =
      let p = and_parts (nat_lt 0 n) (same_type u v && (fits m.structs v c && parts_fit m.structs (each (n - 1) u) cs)) h in
      let q = and_parts (same_type u v) (fits m.structs v c && parts_fit m.structs (each (n - 1) u) cs) p.1 in
      let s = and_parts (fits m.structs v c) (parts_fit m.structs (each (n - 1) u) cs) q.1 in
      let one = one_of v c cs s.0 g in
      (one.0, parts_sound (each (n - 1) u) cs s.1 one.1)
  parts_sound (these no_trees) (more_constants v c cs) h g = absurd (true≢false (sym h))
  parts_sound (these (more_trees u ts)) (more_constants v c cs) h g =
      let q = and_parts (same_type u v) (fits m.structs v c && parts_fit m.structs (these ts) cs) h in
      let s = and_parts (fits m.structs v c) (parts_fit m.structs (these ts) cs) q.1 in
      let one = one_of v c cs s.0 g in
      (one.0, parts_sound (these ts) cs s.1 one.1)
  parts_sound as_written (more_constants v c cs) h g =
      let s = and_parts (fits m.structs v c) (parts_fit m.structs as_written cs) h in
      let one = one_of v c cs s.0 g in
      (one.0, parts_sound as_written cs s.1 one.1)
  parts_sound nothing (more_constants v c cs) h g = absurd (true≢false (sym h))

  pub list_sound : (t : Tree) (b : Brackets) (cs : Constants) → IsSound m t (Aggregate b cs) → AreSound cs
  list_sound t b cs s =
      let x : Typed = (t, Aggregate b cs) in
      parts_sound (expected b (opened m.structs t)) cs s.fits
      ((and_parts (is_good_part m x) (list_all (is_good_part m) (constants_of cs)) s.good).1, (and_parts (types_written_suit m.structs x) (list_all (types_written_suit m.structs) (constants_of cs)) s.suits).1)

  -- an address that is moved, the base with the indices, and the type over which they step
  pub record IsAddressSound (t source : Tree) (cs : Constants) : Type 0 where
    pub pointer : is_pointer t ≡ true
    pub laid : lies_in_memory m.structs source ≡ true
    pub fit : element_operands_fit m.structs source cs ≡ true
    pub sound : AreSound cs

  pub address_sound : (t : Tree) (flags : ℕ) (source : Tree) (cs : Constants) → IsSound m t (ElementAddress flags source cs) → IsAddressSound t source cs
  address_sound t flags source cs s =
      let x : Typed = (t, ElementAddress flags source cs) in
      let p = and_parts (is_pointer t) (element_operands_fit m.structs source cs && parts_fit m.structs as_written cs) s.fits in
      let q = and_parts (element_operands_fit m.structs source cs) (parts_fit m.structs as_written cs) p.1 in
      let good = and_parts (is_good_part m x) (list_all (is_good_part m) (constants_of cs)) s.good in
      let suits = and_parts (types_written_suit m.structs x) (list_all (types_written_suit m.structs) (constants_of cs)) s.suits in
      record {
        pointer = p.0;
        laid = (and_parts (lies_in_memory m.structs source) (list_all (is_passable m.structs) (constant_types cs)) suits.0).0;
        fit = q.0;
        sound = parts_sound as_written cs q.1 (good.1, suits.1);
      }

  -- a cast
  pub record IsCastSound (t : Tree) (opcode : Opcode) (from : Tree) (value : Constant) (to : Tree) : Type 0 where
    pub same : t ≡ to
    pub between : is_cast_between opcode from to ≡ true
    pub sound : IsSound m from value

  pub cast_sound : (t : Tree) (opcode : Opcode) (from : Tree) (value : Constant) (to : Tree) → IsSound m t (Cast opcode from value to) → IsCastSound t opcode from value to
  cast_sound t opcode from value to s =
      let x : Typed = (t, Cast opcode from value to) in
      let p = and_parts (same_type t to) (is_cast_between opcode from to && fits m.structs from value) s.fits in
      let q = and_parts (is_cast_between opcode from to) (fits m.structs from value) p.1 in
      record {
        same = type_is t to p.0;
        between = q.0;
        sound = record {
          fits = q.1;
          good = (and_parts (is_good_part m x) (list_all (is_good_part m) (constants_in from value)) s.good).1;
          suits = (and_parts (types_written_suit m.structs x) (list_all (types_written_suit m.structs) (constants_in from value)) s.suits).1;
        };
      }

  -- a binary operation
  pub record IsBinarySound (t : Tree) (opcode : Opcode) (a : Tree) (left : Constant) (b : Tree) (right : Constant) : Type 0 where
    pub integer : is_integer t ≡ true
    pub first : t ≡ a
    pub second : t ≡ b
    pub opcode_suits : is_constant_binary opcode ≡ true
    pub left_sound : IsSound m a left
    pub right_sound : IsSound m b right

  -- what is told of a good part
  good_range : (t : Tree) (c : Constant) → is_good_part m (t, c) ≡ true → is_in_range t c ≡ true
  good_range t c h =
      let p = and_parts (is_good_type m.structs t) (list_all (is_good_type m.structs) (type_in_constant c) && (is_in_range t c && (is_constant_of_phrase c && names_an_entry m c))) h in
      let q = and_parts (list_all (is_good_type m.structs) (type_in_constant c)) (is_in_range t c && (is_constant_of_phrase c && names_an_entry m c)) p.1 in
      (and_parts (is_in_range t c) (is_constant_of_phrase c && names_an_entry m c) q.1).0

  good_phrase : (t : Tree) (c : Constant) → is_good_part m (t, c) ≡ true → is_constant_of_phrase c ≡ true
  good_phrase t c h =
      let p = and_parts (is_good_type m.structs t) (list_all (is_good_type m.structs) (type_in_constant c) && (is_in_range t c && (is_constant_of_phrase c && names_an_entry m c))) h in
      let q = and_parts (list_all (is_good_type m.structs) (type_in_constant c)) (is_in_range t c && (is_constant_of_phrase c && names_an_entry m c)) p.1 in
      let r = and_parts (is_in_range t c) (is_constant_of_phrase c && names_an_entry m c) q.1 in
      (and_parts (is_constant_of_phrase c) (names_an_entry m c) r.1).0

  pub binary_sound : (t : Tree) (opcode : Opcode) (flags : ℕ) (a : Tree) (left : Constant) (b : Tree) (right : Constant) → IsSound m t (Binary opcode flags a left b right) → IsBinarySound t opcode a left b right
  binary_sound t opcode flags a left b right s =
      let c = Binary opcode flags a left b right in
      let x : Typed = (t, c) in
      let p = and_parts (is_integer t) (same_type t a && (same_type t b && (fits m.structs a left && fits m.structs b right))) s.fits in
      let q = and_parts (same_type t a) (same_type t b && (fits m.structs a left && fits m.structs b right)) p.1 in
      let r = and_parts (same_type t b) (fits m.structs a left && fits m.structs b right) q.1 in
      let u = and_parts (fits m.structs a left) (fits m.structs b right) r.1 in
      let good = and_parts (is_good_part m x) (list_all (is_good_part m) (constants_in a left ++ constants_in b right)) s.good in
      let suits = and_parts (types_written_suit m.structs x) (list_all (types_written_suit m.structs) (constants_in a left ++ constants_in b right)) s.suits in
      record {
        integer = p.0;
        first = type_is t a q.0;
        second = type_is t b r.0;
        opcode_suits = (and_parts (is_constant_binary opcode) (are_flags_of opcode flags) (good_phrase t c good.0)).0;
        left_sound = record {
          fits = u.0;
          good = front_all (is_good_part m) (constants_in a left) (constants_in b right) good.1;
          suits = front_all (types_written_suit m.structs) (constants_in a left) (constants_in b right) suits.1;
        };
        right_sound = record {
          fits = u.1;
          good = back_all (is_good_part m) (constants_in a left) (constants_in b right) good.1;
          suits = back_all (types_written_suit m.structs) (constants_in a left) (constants_in b right) suits.1;
        };
      }

  -- a number is in the range of its type
  pub number_in_range : (t : Tree) (n : ℕ) → IsSound m t (Integer n) → is_in_range t (Integer n) ≡ true
  number_in_range t n s = good_range t (Integer n) (and_parts (is_good_part m (t, Integer n)) true s.good).0

-- constants of the arena that can stand at their types
pub all_parts : (a : Lists) (id : ℕ) (parts : List TypedConst) → id < length a.constants → All (λ t. (t.ty < length a.table.types) × (t.value < id)) parts → AreSound (module_of a) (constants_with_types a parts) → All (IsPart a) parts
all_parts a id [] lt known sound = λ k d l. absurd (omega (arith, l))
all_parts a id (part ∷ parts) lt known sound =
    let here = known 0 part (omega arith) in
    let less = here.1 in
    all_more (IsPart a) part parts (record { ty = here.0; value = omega (arith, less, lt); sound = sound.0 }) (all_parts a id parts lt (λ j e h. known (suc j) e (omega (arith, h))) sound.1)

-- The operands of a constant or value that fits have 64 bits.
use Rattle.std.proofs.Common.{◌≡◌, ℕ, zero, suc, ◌/◌, ◌%◌, ◌^◌, ◌<◌, ◌≤◌, Bool, true, false, List, [], ◌∷◌, ◌++◌, length, refl, sym, subst, arith}
use Rattle.std.specs.Prelude.{bytes_eq, nat_lt, nat_le, if◌then◌else◌}
use Rattle.std.specs.List.{list_all, AllByRecursion}
use Rattle.std.proofs.Math.Pow.{pow_mono}
use Rattle.std.proofs.lemmas.Bool.{and_parts, leb-true, ltb-true}
use Rattle.std.proofs.lemmas.List.{length-append}
use Rattle.ir_tables.specs.declared.opcode.Opcode.{Opcode}
use Rattle.ir_tables.specs.declared.opcode.Opcode.TheVariants as op
use Rattle.ir_tables.specs.Opcode.{opcode_code}
use Rattle.type_table.specs.Tree.{Tree, int, ptr, void, array, struct, named}
use Rattle.module_arena.specs.Module.{LocalName, Numbered, Constant, Integer, Truth, Null, Undef, Poison, ZeroInitializer, Address, ByteString, Aggregate, ElementAddress, Cast, Binary, Constants, no_constants, more_constants, Value, Local, Known, Module}
use Rattle.module_arena.specs.Constants.{Typed, constants_in, constants_of}
use Rattle.module_arena.specs.Same.{same_type, same_local}
use Rattle.module_arena.specs.WellFormed.{is_good_type, is_good_part, depth, is_good_constant, known_in}
use Rattle.record_table.specs.Fields.{Numbering, byte}
use Rattle.record_table.specs.Layout.{place}
use Rattle.record_table.specs.Listed.{AreBytes, AreFlagsOf, IsType, IsLocal}
use Rattle.record_table.specs.Constants.{Parts, later_parts, parts_of, count_constants, integer_spell, spell_constant, spell_parts, spell_operands, spell_typed, value_spell}
use Rattle.record_table.specs.FittingConstants.{IsIntegerOf, Fits, AreParts, AreOperands, AreTyped, ValueFits}
use Rattle.record_law.proofs.OnTypes.Tests.{all_front, all_rest}
use Rattle.record_law.proofs.OnTypes.GoodWritten.{constant_good}
use Rattle.record_law.proofs.OnAlone.Numbers.{IsSmall, none, next, one, join, counted, indexed, AreFew}

pub opcode_low : (o : Opcode) → opcode_code o < 2 ^ 64
opcode_low op.Add = omega arith
opcode_low _ = omega arith

pub flags_low : (o : Opcode) (f : ℕ) → AreFlagsOf o f → f < 2 ^ 64
flags_low o f fit = let less : f < 512 = ltb-true f 512 (and_parts (nat_lt f 512) _ fit).0 in omega (arith, less)

-- ---- a constant has an operand
module _ (k : Numbering) where
  pub constant_some : (t : Tree) (c : Constant) → 0 < length (spell_constant k t c)
  constant_some t (Integer n) = omega arith
  constant_some t (Truth b) = omega arith
  constant_some t Null = omega arith
  constant_some t Undef = omega arith
  constant_some t Poison = omega arith
  constant_some t ZeroInitializer = omega arith
  constant_some t (Address g) = omega arith
  constant_some t (ByteString bytes) = omega arith
  constant_some t (Aggregate round cs) = omega arith
  constant_some t (ElementAddress f source cs) = omega arith
  constant_some t (Cast o from c to) = omega arith
  constant_some t (Binary o f s a u b) = omega arith

  pub value_some : (t : Tree) (v : Value) → 0 < length (value_spell k t v)
  value_some t (Local name) = omega arith
  value_some t (Known c) = constant_some t c

  parts_some : (cs : Constants) → count_constants cs ≤ length (spell_parts k cs)
  parts_some no_constants = omega arith
  parts_some (more_constants t c cs) = let first = constant_some t c in let others = parts_some cs in omega (arith, first, others, length-append (spell_constant k t c) (spell_parts k cs))

  typed_some : (cs : Constants) → count_constants cs ≤ length (spell_typed k cs)
  typed_some no_constants = omega arith
  typed_some (more_constants t c cs) =
      let others = typed_some cs in
      omega (arith, others, length-append (place same_type k.types t ∷ spell_constant k t c) (spell_typed k cs))

-- a number in one operand, or in two halves
halves : (width n : ℕ) (narrow : Bool) → nat_le width 64 ≡ narrow → width ≤ 128 → n < 2 ^ width → IsSmall (if narrow then n ∷ [] else (n % 2 ^ 64 ∷ n / 2 ^ 64 ∷ []))
halves width n true e le less = let few : width ≤ 64 = leb-true width 64 e in let most = pow_mono few in one n (omega (arith, less, most))
halves width n false e le less =
    let most = pow_mono le in
    let all : n < 2 ^ 128 = omega (arith, less, most) in
    next (n % 2 ^ 64) (n / 2 ^ 64 ∷ []) (omega arith) (one (n / 2 ^ 64) (omega (arith, all)))

-- a count in front of what it counts
before : (n : ℕ) (ns : List ℕ) → n ≤ length ns → IsSmall ns → IsSmall (n ∷ ns)
before n ns count rest = record { all = λ few. (omega (arith, few, count), rest.all (omega (arith, few))) }

bytes_low : (bytes : List ℕ) → AreBytes bytes → AllByRecursion (λ b. IsSmall (byte.spell b)) bytes
bytes_low [] small = tt
bytes_low (b ∷ bytes) small = let less : b < 256 = ltb-true b 256 small.0 in (one b (omega (arith, less)), bytes_low bytes small.1)

byte_some : (b : ℕ) → 0 < length (byte.spell b)
byte_some b = omega arith

module _ (m : Module) (k : Numbering) (few : AreFew k) where
  abbrev AreGoodParts : List Typed → Type 0
  AreGoodParts ts = list_all (is_good_part m) ts ≡ true

  pub type_low : (t : Tree) → IsType k t → place same_type k.types t < 2 ^ 64
  type_low t known = indexed same_type k.types void t known few.types

  integer_low : (t : Tree) (n : ℕ) → IsIntegerOf t n → is_good_type m.structs t ≡ true → IsSmall (integer_spell t n)
  integer_low (int width) n fit good =
      let p = and_parts (nat_le 1 width) (nat_le width 128) good in
      halves width n (nat_le width 64) refl (leb-true width 128 p.1) (ltb-true n (2 ^ width) fit)
  integer_low ptr n fit good = elim fit [ ]
  integer_low void n fit good = elim fit [ ]
  integer_low (array j t) n fit good = elim fit [ ]
  integer_low (struct packed ts) n fit good = elim fit [ ]
  integer_low (named name) n fit good = elim fit [ ]

  inside : (t : Tree) (c : Constant) (others : List Typed) → AreGoodParts ((t, c) ∷ others) → AreGoodParts others
  inside t c others g = (and_parts (is_good_part m (t, c)) (list_all (is_good_part m) others) g).1

  mutual
    pub constant_low : (c : Constant) (deep : ℕ) (t : Tree) → Fits k c deep t → AreGoodParts (constants_in t c) → IsSmall (spell_constant k t c)
    constant_low (Integer n) deep t fit g = next 1 (integer_spell t n) (omega arith) (integer_low t n fit (constant_good m t (Integer n) g).0)
    constant_low (Truth b) deep t fit g = elim fit [ ]
    constant_low Null deep t fit g = one 2 (omega arith)
    constant_low Undef deep t fit g = one 3 (omega arith)
    constant_low Poison deep t fit g = one 4 (omega arith)
    constant_low ZeroInitializer deep t fit g = one 5 (omega arith)
    constant_low (Address name) deep t fit g = next 6 (place bytes_eq k.globals name ∷ []) (omega arith) (one (place bytes_eq k.globals name) (indexed bytes_eq k.globals [] name fit.1 few.globals))
    constant_low (ByteString bytes) deep t fit g = next 8 _ (omega arith) (counted byte.spell bytes byte_some (bytes_low bytes fit.1))
    constant_low (Aggregate round cs) zero t fit g = elim fit.2 [ ]
    constant_low (Aggregate round cs) (suc deep) t fit g =
        next 7 (count_constants cs ∷ spell_parts k cs) (omega arith) (before (count_constants cs) (spell_parts k cs) (parts_some k cs) (parts_low cs deep (parts_of k.structs t) fit.2 (inside t (Aggregate round cs) (constants_of cs) g)))
    constant_low (ElementAddress f source cs) zero t fit g = elim fit.3 [ ]
    constant_low (ElementAddress f source cs) (suc deep) t fit g =
        next 9 _ (omega arith) (next f _ (flags_low op.GetElementPtr f fit.1)
        (next (place same_type k.types source) (spell_operands k cs) (type_low source fit.2) (operands_low cs deep fit.3 (inside t (ElementAddress f source cs) (constants_of cs) g))))
    constant_low (Cast o from c to) zero t fit g = elim fit.3 [ ]
    constant_low (Cast o from c to) (suc deep) t fit g =
        next 10 _ (omega arith) (next (opcode_code o) _ (opcode_low o) (next (place same_type k.types from) (spell_constant k from c) (type_low from fit.1) (constant_low c deep from fit.3 (inside t (Cast o from c to) (constants_in from c) g))))
    constant_low (Binary o f s a u b) zero t fit g = elim fit.4 [ ]
    constant_low (Binary o f s a u b) (suc deep) t fit g =
        let both = inside t (Binary o f s a u b) (constants_in s a ++ constants_in u b) g in
        let one_fits = subst (λ (x : Tree). Fits k a deep x) (sym fit.2) fit.4.0 in
        let other_fits = subst (λ (x : Tree). Fits k b deep x) (sym fit.3) fit.4.1 in
        next 11 _ (omega arith) (next (opcode_code o) _ (opcode_low o) (next f _ (flags_low o f fit.1)
        (join (spell_constant k s a) (spell_constant k u b) (constant_low a deep s one_fits (all_front (is_good_part m) (constants_in s a) (constants_in u b) both)) (constant_low b deep u other_fits (all_rest (is_good_part m) (constants_in s a) (constants_in u b) both)))))

    parts_low : (cs : Constants) (deep : ℕ) (ps : Parts) → AreParts k cs deep ps → AreGoodParts (constants_of cs) → IsSmall (spell_parts k cs)
    parts_low no_constants deep ps fit g = none
    parts_low (more_constants t c cs) deep ps fit g =
        join (spell_constant k t c) (spell_parts k cs) (constant_low c deep t fit.1 (all_front (is_good_part m) (constants_in t c) (constants_of cs) g))
        (parts_low cs deep (later_parts ps) fit.2 (all_rest (is_good_part m) (constants_in t c) (constants_of cs) g))

    operands_low : (cs : Constants) (deep : ℕ) → AreOperands k cs deep → AreGoodParts (constants_of cs) → IsSmall (spell_operands k cs)
    operands_low no_constants deep fit g = elim fit [ ]
    operands_low (more_constants t c cs) deep fit g =
        let one_fits = subst (λ (x : Tree). Fits k c deep x) (sym fit.0) fit.1 in
        join (spell_constant k t c) (count_constants cs ∷ spell_typed k cs) (constant_low c deep t one_fits (all_front (is_good_part m) (constants_in t c) (constants_of cs) g))
        (before (count_constants cs) (spell_typed k cs) (typed_some k cs) (typed_low cs deep fit.2 (all_rest (is_good_part m) (constants_in t c) (constants_of cs) g)))

    typed_low : (cs : Constants) (deep : ℕ) → AreTyped k cs deep → AreGoodParts (constants_of cs) → IsSmall (spell_typed k cs)
    typed_low no_constants deep fit g = none
    typed_low (more_constants t c cs) deep fit g =
        next (place same_type k.types t) (spell_constant k t c ++ spell_typed k cs) (type_low t fit.0)
        (join (spell_constant k t c) (spell_typed k cs) (constant_low c deep t fit.1 (all_front (is_good_part m) (constants_in t c) (constants_of cs) g))
        (typed_low cs deep fit.2 (all_rest (is_good_part m) (constants_in t c) (constants_of cs) g)))

  pub known_low : (t : Tree) (c : Constant) → Fits k c 64 t → is_good_constant m (t, c) ≡ true → IsSmall (spell_constant k t c)
  known_low t c fit g = constant_low c 64 t fit (and_parts (nat_le (depth c) 64) (list_all (is_good_part m) (constants_in t c)) g).1

  pub local_low : (name : LocalName) → IsLocal k name → place same_local k.values name < 2 ^ 64
  local_low name listed = indexed same_local k.values (Numbered 0) name listed few.values

  pub value_low : (t : Tree) (v : Value) → ValueFits k t v → list_all (is_good_constant m) (known_in t v) ≡ true → IsSmall (value_spell k t v)
  value_low t (Local name) fit g = next 0 (place same_local k.values name ∷ []) (omega arith) (one (place same_local k.values name) (local_low name fit))
  value_low t (Known c) fit g = known_low t c fit (and_parts (is_good_constant m (t, c)) true g).0

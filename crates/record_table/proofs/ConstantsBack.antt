-- What a constant spells is read back.
use Rattle.std.proofs.Common.{◌≡◌, ℕ, zero, suc, ◌+◌, ◌*◌, ◌/◌, ◌%◌, ◌^◌, Bool, true, false, List, [], ◌∷◌, ◌++◌, length, Option, Some, None, refl, append_assoc}
use Rattle.std.proofs.Math.Nat.{mod-add-div}
use Rattle.std.specs.Prelude.{bytes_eq, nat_lt, nat_le}
use Rattle.ir_tables.specs.declared.opcode.Opcode.{Opcode}
use Rattle.ir_tables.specs.declared.opcode.Opcode.TheVariants.{Add, Sub, Xor, Trunc, PtrToInt, IntToPtr, GetElementPtr}
use Rattle.ir_tables.specs.Opcode.{opcode_code}
use Rattle.type_table.specs.Tree.{Tree, int, ptr, void, array, struct, named}
use Rattle.module_arena.specs.Module.{Bytes, Brackets, Constant, Integer, Truth, Null, Undef, Poison, ZeroInitializer, Address, ByteString, Aggregate, ElementAddress, Cast, Binary, Constants, no_constants, more_constants}
use Rattle.std.proofs.lemmas.Bool.{false≢true}
use Rattle.module_arena.specs.TypeTests.{is_pointer}
use Rattle.module_arena.specs.Constants.{is_bytes_of}
use Rattle.module_arena.specs.Forms.{is_constant_cast, is_constant_binary}
use Rattle.record_table.specs.Walk.{going, next}
use Rattle.record_table.specs.Fields.{Numbering, ty, global, text}
use Rattle.record_table.specs.Constants.{Reads, Parts, parts_of, first_part, later_parts, has_parts, brackets_of, integer, integer_spell, parts, typed, of_form, by_code, read_nested, spell_constant, spell_parts, spell_typed, count_constants, cast_opcode, binary_opcode}
use Rattle.record_table.specs.Listed.{IsListed, AreBytes, AreFlagsOf, IsType}
use Rattle.record_table.specs.FittingConstants.{IsIntegerOf, Fits, AreParts, AreTyped}
use Rattle.record_table.proofs.Layouts.{lays_counted, lays_tested}

module _ (k : Numbering) where
  inner : ℕ → Option Reads
  inner zero = None
  inner (suc deep) = Some (read_nested k deep)

  -- a constant is read by its code
  nested_is : (deep : ℕ) (t : Tree) (code : ℕ) (rest : List ℕ) → read_nested k deep t (going (code ∷ rest) None) ≡ by_code k (inner deep) code t (going rest None)
  unfolding inner read_nested next
  nested_is zero t code rest = refl
  nested_is (suc deep) t code rest = refl

  -- the integer's halves
  integer_cases : (width n : ℕ) (rest : List ℕ) (small : Bool) → nat_le width 64 ≡ small → nat_lt n (2 ^ width) ≡ true
      → integer (int width) (going (integer_spell (int width) n ++ rest) None) ≡ (Integer n, going rest None)
  unfolding integer next
  integer_cases width n rest true e fit = rw (e, fit) refl
  integer_cases width n rest false e fit = let whole : n % 2 ^ 64 + 2 ^ 64 * (n / 2 ^ 64) ≡ n = mod-add-div n (2 ^ 64) in rw (e, whole, fit) refl

  integer_back : (t : Tree) (n : ℕ) (rest : List ℕ) → IsIntegerOf t n → integer t (going (integer_spell t n ++ rest) None) ≡ (Integer n, going rest None)
  integer_back (int width) n rest fit = integer_cases width n rest (nat_le width 64) refl fit
  integer_back ptr n rest fit = elim fit [ ]
  integer_back void n rest fit = elim fit [ ]
  integer_back (array m t) n rest fit = elim fit [ ]
  integer_back (struct packed ts) n rest fit = elim fit [ ]
  integer_back (named name) n rest fit = elim fit [ ]

  -- so many bytes
  bytes_back : (bytes : List ℕ) (rest : List ℕ) → AreBytes bytes → text.read (going (text.spell bytes ++ rest) None) ≡ (bytes, going rest None)
  bytes_back bytes rest fit = (lays_counted (lays_tested 3 (λ n. nat_lt n 256))).back bytes rest fit

  unfoldable pub Back : ℕ → Tree → Constant → Type 0
  Back deep t c = (rest : List ℕ) → read_nested k deep t (going (spell_constant k t c ++ rest) None) ≡ (c, going rest None)

  unfoldable pub BackParts : ℕ → Parts → Constants → Type 0
  BackParts deep ps cs = (rest : List ℕ) → parts (read_nested k deep) (count_constants cs) ps (going (spell_parts k cs ++ rest) None) ≡ (cs, going rest None)

  unfoldable pub BackTyped : ℕ → Constants → Type 0
  BackTyped deep cs = (rest : List ℕ) → typed (ty k) (read_nested k deep) (count_constants cs) (going (spell_typed k cs ++ rest) None) ≡ (cs, going rest None)

  aggregate_back : (deep : ℕ) (t : Tree) (round : Brackets) (cs : Constants) → has_parts (parts_of k.structs t) (count_constants cs) ≡ true → brackets_of (parts_of k.structs t) ≡ round
      → BackParts deep (parts_of k.structs t) cs → Back (suc deep) t (Aggregate round cs)
  unfolding of_form next inner Back BackParts
  aggregate_back deep t round cs fit same back rest = rw (nested_is (suc deep) t 7 (count_constants cs ∷ spell_parts k cs ++ rest), fit, back rest, same) refl

  -- the opcode of a cast by its code
  cast_code : (o : Opcode) (rest : List ℕ) → is_constant_cast o ≡ true → cast_opcode.read (going (opcode_code o ∷ rest) None) ≡ (o, going rest None)
  unfolding next
  cast_code Trunc rest fit = refl
  cast_code PtrToInt rest fit = refl
  cast_code IntToPtr rest fit = refl
  cast_code _ rest fit = absurd (false≢true fit)

  cast_back : (deep : ℕ) (t : Tree) (o : Opcode) (from : Tree) (c : Constant) (to : Tree) → is_constant_cast o ≡ true → IsType k from → to ≡ t → Back deep from c → Back (suc deep) t (Cast o from c to)
  unfolding of_form next inner Back
  cast_back deep t o from c to cast known same back rest =
      rw (nested_is (suc deep) t 10 ((opcode_code o ∷ (ty k).spell from ++ spell_constant k from c) ++ rest), cast_code o ((ty k).spell from ++ spell_constant k from c ++ rest) cast, known.inside, known.found, back rest, same) refl

  -- the opcode of an expression of two constants by its code
  binary_code : (o : Opcode) (rest : List ℕ) → is_constant_binary o ≡ true → binary_opcode.read (going (opcode_code o ∷ rest) None) ≡ (o, going rest None)
  unfolding next
  binary_code Add rest fit = refl
  binary_code Sub rest fit = refl
  binary_code Xor rest fit = refl
  binary_code _ rest fit = absurd (false≢true fit)

  binary_back : (deep : ℕ) (t : Tree) (o : Opcode) (f : ℕ) (s : Tree) (a : Constant) (u : Tree) (b : Constant) → is_constant_binary o ≡ true → AreFlagsOf o f → s ≡ t → u ≡ t → Back deep t a → Back deep t b
      → Back (suc deep) t (Binary o f s a u b)
  unfolding of_form next inner Back
  binary_back deep t o f s a u b two known left right back_a back_b rest =
      rw (
        left,
        right,
        nested_is (suc deep) t 11 ((opcode_code o ∷ f ∷ spell_constant k t a ++ spell_constant k t b) ++ rest),
        binary_code o (f ∷ (spell_constant k t a ++ spell_constant k t b) ++ rest) two,
        known,
        append_assoc (spell_constant k t a) (spell_constant k t b) rest,
        back_a (spell_constant k t b ++ rest),
        back_b rest,
      ) refl

  element_back : (deep : ℕ) (t : Tree) (f : ℕ) (source b : Tree) (base : Constant) (cs : Constants) → is_pointer t ≡ true → AreFlagsOf GetElementPtr f → IsType k source → b ≡ ptr → Back deep ptr base → BackTyped deep cs
      → Back (suc deep) t (ElementAddress f source (more_constants b base cs))
  unfolding of_form next inner Back BackTyped
  element_back deep t f source b base cs pointer known source_known same back_base back_cs rest =
      rw (
        same,
        nested_is (suc deep) t 9 ((f ∷ (ty k).spell source ++ spell_constant k ptr base ++ count_constants cs ∷ spell_typed k cs) ++ rest),
        pointer,
        known,
        source_known.inside,
        source_known.found,
        append_assoc (spell_constant k ptr base) (count_constants cs ∷ spell_typed k cs) rest,
        back_base ((count_constants cs ∷ spell_typed k cs) ++ rest),
        back_cs rest,
      ) refl

  address_back : (deep : ℕ) (t : Tree) (g : Bytes) → is_pointer t ≡ true → IsListed bytes_eq k.globals [] g → Back deep t (Address g)
  unfolding of_form next Back
  address_back deep t g pointer known rest = rw (nested_is deep t 6 ((global k).spell g ++ rest), pointer, known.inside, known.found) refl

  text_back : (deep : ℕ) (t : Tree) (bytes : List ℕ) → is_bytes_of (length bytes) t ≡ true → AreBytes bytes → Back deep t (ByteString bytes)
  unfolding of_form Back
  text_back deep t bytes fit small rest = rw (nested_is deep t 8 (text.spell bytes ++ rest), bytes_back bytes rest small, fit) refl

  number_back : (deep : ℕ) (t : Tree) (n : ℕ) → IsIntegerOf t n → Back deep t (Integer n)
  unfolding of_form Back
  number_back deep t n fit rest = rw (nested_is deep t 1 (integer_spell t n ++ rest), integer_back t n rest fit) refl

  more_parts_back : (deep : ℕ) (ps : Parts) (t : Tree) (c : Constant) (cs : Constants) → first_part ps ≡ t → Back deep t c → BackParts deep (later_parts ps) cs → BackParts deep ps (more_constants t c cs)
  unfolding parts Back BackParts
  more_parts_back deep ps t c cs same back_c back_cs rest =
      rw (append_assoc (spell_constant k t c) (spell_parts k cs) rest, same, back_c (spell_parts k cs ++ rest), back_cs rest) refl

  more_typed_back : (deep : ℕ) (t : Tree) (c : Constant) (cs : Constants) → IsType k t → Back deep t c → BackTyped deep cs → BackTyped deep (more_constants t c cs)
  unfolding typed next Back BackTyped
  more_typed_back deep t c cs known back_c back_cs rest =
      rw (append_assoc (spell_constant k t c) (spell_typed k cs) rest, known.inside, known.found, back_c (spell_typed k cs ++ rest), back_cs rest) refl

  no_parts_back : (deep : ℕ) (ps : Parts) → BackParts deep ps no_constants
  unfolding parts BackParts
  no_parts_back deep ps rest = refl

  no_typed_back : (deep : ℕ) → BackTyped deep no_constants
  unfolding typed BackTyped
  no_typed_back deep rest = refl

  null_back : (deep : ℕ) (t : Tree) → is_pointer t ≡ true → Back deep t Null
  unfolding of_form Back
  null_back deep t fit rest = rw (nested_is deep t 2 rest, fit) refl

  undef_back : (deep : ℕ) (t : Tree) → Back deep t Undef
  unfolding of_form Back
  undef_back deep t rest = rw (nested_is deep t 3 rest) refl

  poison_back : (deep : ℕ) (t : Tree) → Back deep t Poison
  unfolding of_form Back
  poison_back deep t rest = rw (nested_is deep t 4 rest) refl

  zero_back : (deep : ℕ) (t : Tree) → Back deep t ZeroInitializer
  unfolding of_form Back
  zero_back deep t rest = rw (nested_is deep t 5 rest) refl

  mutual
    pub constant_back : (c : Constant) (deep : ℕ) (t : Tree) → Fits k c deep t → Back deep t c
    constant_back (Integer n) deep t fit = number_back deep t n fit
    constant_back (Truth b) deep t fit = elim fit [ ]
    constant_back Null deep t fit = null_back deep t fit
    constant_back Undef deep t fit = undef_back deep t
    constant_back Poison deep t fit = poison_back deep t
    constant_back ZeroInitializer deep t fit = zero_back deep t
    constant_back (Address g) deep t fit = address_back deep t g fit.0 fit.1
    constant_back (ByteString bytes) deep t fit = text_back deep t bytes fit.0 fit.1
    constant_back (Aggregate round cs) zero t fit = elim fit.2 [ ]
    constant_back (Aggregate round cs) (suc deep) t fit = aggregate_back deep t round cs fit.0 fit.1 (parts_back cs deep (parts_of k.structs t) fit.2)
    constant_back (ElementAddress f source no_constants) zero t fit = elim fit.3 [ ]
    constant_back (ElementAddress f source no_constants) (suc deep) t fit = elim fit.3 [ ]
    constant_back (ElementAddress f source (more_constants b c cs)) zero t fit = elim fit.3 [ ]
    constant_back (ElementAddress f source (more_constants b c cs)) (suc deep) t fit =
        element_back deep t f source b c cs fit.0 fit.1 fit.2 fit.3.0 (constant_back c deep ptr fit.3.1) (typed_back cs deep fit.3.2)
    constant_back (Cast o from c to) zero t fit = elim fit.3 [ ]
    constant_back (Cast o from c to) (suc deep) t fit = cast_back deep t o from c to fit.0 fit.1 fit.2 (constant_back c deep from fit.3)
    constant_back (Binary o f s a u b) zero t fit = elim fit.4 [ ]
    constant_back (Binary o f s a u b) (suc deep) t fit =
        binary_back deep t o f s a u b fit.0 fit.1 fit.2 fit.3 (constant_back a deep t fit.4.0) (constant_back b deep t fit.4.1)

    pub parts_back : (cs : Constants) (deep : ℕ) (ps : Parts) → AreParts k cs deep ps → BackParts deep ps cs
    parts_back no_constants deep ps fit = no_parts_back deep ps
    parts_back (more_constants t c cs) deep ps fit = more_parts_back deep ps t c cs fit.0 (constant_back c deep t fit.1) (parts_back cs deep (later_parts ps) fit.2)

    pub typed_back : (cs : Constants) (deep : ℕ) → AreTyped k cs deep → BackTyped deep cs
    typed_back no_constants deep fit = no_typed_back deep
    typed_back (more_constants t c cs) deep fit = more_typed_back deep t c cs fit.0 (constant_back c deep t fit.1) (typed_back cs deep fit.2)

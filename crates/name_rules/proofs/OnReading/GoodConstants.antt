-- Where items break nowhere, the constants of their module are good.
use Rattle.std.proofs.Common.{◌≡◌, ℕ, ◌+◌, ◌^◌, ◌≤◌, ◌==◌, ◌||◌, max, nat_lt, nat_le, not, cond, List, [], ◌∷◌, ◌++◌, Bool, true, false, None, refl, sym, ap, subst, ◌∙◌, arith}
use Rattle.std.specs.List.{list_all}
use Rattle.std.proofs.lemmas.Bool.{and_from, le-leb, lt-ltb, eqb-true}
use Rattle.std.proofs.lemmas.Nat.{pow_pos}
use Rattle.ir_tables.specs.declared.opcode.Opcode.{Opcode}
use Rattle.ir_tables.specs.declared.opcode.Opcode.TheVariants as op
use Rattle.ir_tables.specs.declared.flag.Flag.{Flag}
use Rattle.ir_tables.specs.Flag.{flags}
use Rattle.ir_tables.specs.Flags.{has_flag}
use Rattle.ir_tables.specs.MayHave.{may_have}
use Rattle.ir_terminals.specs.declared.values.Integer.{Integer}
use Rattle.ir_phrases.specs.declared.constants.constant.Simple.{Simple}
use Rattle.ir_phrases.specs.declared.constants.constant.Simple.TheVariants as simple
use Rattle.ir_phrases.specs.Constants.Tree.{ConstantTree, IntegerConstant, SimpleConstant, AddressConstant, BytesConstant, ListConstant, ElementAddress, Conversion, Arithmetic, ConstantTrees, no_constants, more_constants}
use Rattle.ir_phrases.specs.Constants.Forms.{AreFlagsOf, is_constant_cast, is_constant_binary, HasConstant, IsFormed, AreFormed}
use Rattle.ir_syntax.specs.Tree.{ItemTree}
use Rattle.type_table.specs.Tree.{Tree, int, ptr, void, array, struct, named, Trees}
use Rattle.module_arena.specs.Module.{Bytes, Constant, Constants}
use Rattle.module_arena.specs.Module as m
use Rattle.module_arena.specs.Forms as forms
use Rattle.module_arena.specs.Constants.{constants_in, constants_of}
use Rattle.module_arena.specs.WellFormed.{is_good_type, is_in_range, is_good_part, has_entry, depth, greatest_depth, is_good_constant}
use Rattle.name_rules.specs.declared.fault.ResolveFault.TheVariants as faults
use Rattle.name_rules.specs.Spelled.{spelled_global}
use Rattle.name_rules.specs.Written.{type_in, bits_at, modulo, truth_at, simple_at, brackets_in, constant_in, constants_in as written_in}
use Rattle.name_rules.specs.ModuleOf.{structs_in, module_of_items}
use Rattle.name_rules.specs.Demand.{first_refusal}
use Rattle.name_rules.specs.TypeDemands.{has_name, type_demands, constant_demands, constants_demands}
use Rattle.name_rules.specs.Breaks.{known_in, demands}
use Rattle.name_rules.proofs.Judging.{held, both_hold}
use Rattle.name_rules.proofs.Below.{modulo_below}
use Rattle.name_rules.proofs.OnReading.Constants.{IsSound, AreSound, depth_of, greatest_of, IsWell}
use Rattle.name_rules.proofs.OnReading.GoodTypes.{good_type}
use Rattle.name_rules.proofs.OnReading.Tests.{all_append}

-- ---- depth

truth_depth : (t : Tree) (truth : Bool) → depth (truth_at t truth) ≡ 0
truth_depth (int width) truth = by (width == 1)
  where
    by : (b : Bool) → depth (cond b (m.Integer (cond truth 1 0)) (m.Truth truth)) ≡ 0
    by true = refl
    by false = refl
truth_depth ptr truth = refl
truth_depth void truth = refl
truth_depth (array n t) truth = refl
truth_depth (struct packed ts) truth = refl
truth_depth (named name) truth = refl

simple_depth : (t : Tree) (word : Simple) → depth (simple_at t word) ≡ 0
simple_depth t simple.True = truth_depth t true
simple_depth t simple.False = truth_depth t false
simple_depth t simple.Null = refl
simple_depth t simple.Undef = refl
simple_depth t simple.Poison = refl
simple_depth t simple.ZeroInitializer = refl

mutual
  same_depth : (t : Tree) (c : ConstantTree) → depth (constant_in t c) ≡ depth_of c
  same_depth t (IntegerConstant written) = refl
  same_depth t (SimpleConstant word place) = simple_depth t word
  same_depth t (AddressConstant name) = refl
  same_depth t (BytesConstant text) = refl
  same_depth t (ListConstant place round elements) = ap (λ n. n + 1) (same_greatest elements)
  same_depth t (ElementAddress place set source operands) = ap (λ n. n + 1) (same_greatest operands)
  same_depth t (Conversion place opcode from value to) = ap (λ n. n + 1) (same_depth (type_in from) value)
  same_depth t (Arithmetic place opcode set left_type left right_type right) =
      λ i. max (same_depth (type_in left_type) left i) (same_depth (type_in right_type) right i) + 1

  same_greatest : (cs : ConstantTrees) → greatest_depth (written_in cs) ≡ greatest_of cs
  same_greatest no_constants = refl
  same_greatest (more_constants t c cs) = λ i. max (same_depth (type_in t) c i) (same_greatest cs i)

-- ---- numbers

below_power : (bits : ℕ) (written : Integer) → nat_lt (modulo bits written) (2 ^ bits) ≡ true
below_power bits written = lt-ltb (modulo bits written) (2 ^ bits) (modulo_below bits written (pow_pos bits))

integer_in_range : (t : Tree) (written : Integer) → is_in_range t (m.Integer (modulo (bits_at t) written)) ≡ true
integer_in_range (int width) written = below_power width written
integer_in_range ptr written = below_power 128 written
integer_in_range void written = below_power 128 written
integer_in_range (array n t) written = below_power 128 written
integer_in_range (struct packed ts) written = below_power 128 written
integer_in_range (named name) written = below_power 128 written

-- what holds at each kind of type
at_each : (P : Tree → Bool) → ((width : ℕ) → P (int width) ≡ true) → P ptr ≡ true → P void ≡ true → ((n : ℕ) (t : Tree) → P (array n t) ≡ true)
    → ((packed : Bool) (ts : Trees) → P (struct packed ts) ≡ true) → ((name : List ℕ) → P (named name) ≡ true) → (t : Tree) → P t ≡ true
at_each P a b c d e f (int width) = a width
at_each P a b c d e f ptr = b
at_each P a b c d e f void = c
at_each P a b c d e f (array n t) = d n t
at_each P a b c d e f (struct packed ts) = e packed ts
at_each P a b c d e f (named name) = f name

null_range : (t : Tree) → is_in_range t m.Null ≡ true
null_range t = at_each (λ t. is_in_range t m.Null) (λ w. refl) refl refl (λ n t. refl) (λ p ts. refl) (λ n. refl) t

undef_range : (t : Tree) → is_in_range t m.Undef ≡ true
undef_range t = at_each (λ t. is_in_range t m.Undef) (λ w. refl) refl refl (λ n t. refl) (λ p ts. refl) (λ n. refl) t

poison_range : (t : Tree) → is_in_range t m.Poison ≡ true
poison_range t = at_each (λ t. is_in_range t m.Poison) (λ w. refl) refl refl (λ n t. refl) (λ p ts. refl) (λ n. refl) t

zero_range : (t : Tree) → is_in_range t m.ZeroInitializer ≡ true
zero_range t = at_each (λ t. is_in_range t m.ZeroInitializer) (λ w. refl) refl refl (λ n t. refl) (λ p ts. refl) (λ n. refl) t

address_range : (t : Tree) (name : List ℕ) → is_in_range t (m.Address name) ≡ true
address_range t name = at_each (λ t. is_in_range t (m.Address name)) (λ w. refl) refl refl (λ n t. refl) (λ p ts. refl) (λ n. refl) t

bytes_range : (t : Tree) (bytes : List ℕ) → list_all (λ b. nat_lt b 256) bytes ≡ true → is_in_range t (m.ByteString bytes) ≡ true
bytes_range t bytes h = at_each (λ t. is_in_range t (m.ByteString bytes)) (λ w. h) h h (λ n t. h) (λ p ts. h) (λ n. h) t

list_range : (t : Tree) (brackets : m.Brackets) (elements : Constants) → is_in_range t (m.Aggregate brackets elements) ≡ true
list_range t brackets elements = at_each (λ t. is_in_range t (m.Aggregate brackets elements)) (λ w. refl) refl refl (λ n t. refl) (λ p ts. refl) (λ n. refl) t

element_range : (t : Tree) (set : ℕ) (source : Tree) (operands : Constants) → is_in_range t (m.ElementAddress set source operands) ≡ true
element_range t set source operands = at_each (λ t. is_in_range t (m.ElementAddress set source operands)) (λ w. refl) refl refl (λ n t. refl) (λ p ts. refl) (λ n. refl) t

cast_range : (t : Tree) (opcode : Opcode) (from : Tree) (value : Constant) (to : Tree) → is_in_range t (m.Cast opcode from value to) ≡ true
cast_range t opcode from value to = at_each (λ t. is_in_range t (m.Cast opcode from value to)) (λ w. refl) refl refl (λ n t. refl) (λ p ts. refl) (λ n. refl) t

binary_range : (t : Tree) (opcode : Opcode) (set : ℕ) (a : Tree) (left : Constant) (b : Tree) (right : Constant) → is_in_range t (m.Binary opcode set a left b right) ≡ true
binary_range t opcode set a left b right = at_each (λ t. is_in_range t (m.Binary opcode set a left b right)) (λ w. refl) refl refl (λ n t. refl) (λ p ts. refl) (λ n. refl) t

-- ---- flags

-- the sets of flags of the phrases are those of the test
pub flags_test : (opcode : Opcode) (set : ℕ) → AreFlagsOf opcode set → forms.are_flags_of opcode set ≡ true
flags_test opcode set h = and_from (nat_lt set 512) _ (lt-ltb set 512 (let b = h.bound in omega (arith, b))) (each flags)
  where
    one : (f : Flag) (b : Bool) → has_flag set f ≡ b → (not b || may_have opcode f) ≡ true
    one f true e = h.each f e
    one f false e = refl

    each : (fs : List Flag) → list_all (λ f. not (has_flag set f) || may_have opcode f) fs ≡ true
    each [] = refl
    each (f ∷ fs) = and_from _ _ (one f (has_flag set f) refl) (each fs)

cast_test : (opcode : Opcode) → is_constant_cast opcode ≡ true → forms.is_constant_cast opcode ≡ true
cast_test op.PtrToInt e = refl
cast_test op.IntToPtr e = refl
cast_test op.Trunc e = refl
cast_test _ e = absurd cc

sum_test : (opcode : Opcode) → is_constant_binary opcode ≡ true → forms.is_constant_binary opcode ≡ true
sum_test op.Add e = refl
sum_test op.Sub e = refl
sum_test op.Xor e = refl
sum_test _ e = absurd cc

has_test : (cs : ConstantTrees) → HasConstant cs → forms.has_constants (written_in cs) ≡ true
has_test no_constants h = absurd h
has_test (more_constants t c cs) h = refl

-- ---- the parts of constants

module _ (items : List ItemTree) (unbroken : first_refusal (demands items) ≡ None) (entries : (name : Bytes) → has_name (known_in items).globals name ≡ true → has_entry (module_of_items items) name ≡ true) where
  abbrev is_good : Tree → Bool
  is_good = is_good_type (structs_in items)

  truth_good : (t : Tree) (truth : Bool) → is_good t ≡ true → list_all (is_good_part (module_of_items items)) (constants_in t (truth_at t truth)) ≡ true
  truth_good (int width) truth h = by (width == 1) refl
    where
      number_fits : (b : Bool) → nat_lt (cond b 1 0) (2 ^ 1) ≡ true
      number_fits true = refl
      number_fits false = refl

      by : (b : Bool) → (width == 1) ≡ b → list_all (is_good_part (module_of_items items)) (constants_in (int width) (cond b (m.Integer (cond truth 1 0)) (m.Truth truth))) ≡ true
      by true e =
          let one = eqb-true width 1 e in
          let fits : nat_lt (cond truth 1 0) (2 ^ width) ≡ true = ap (λ w. nat_lt (cond truth 1 0) (2 ^ w)) one ∙ number_fits truth in
          rw (h, fits) refl
      by false e = rw (h, e) refl
  truth_good ptr truth h = rw h refl
  truth_good void truth h = rw h refl
  truth_good (array n t) truth h = rw h refl
  truth_good (struct packed ts) truth h = rw h refl
  truth_good (named name) truth h = rw h refl

  simple_good : (t : Tree) (word : Simple) → is_good t ≡ true → list_all (is_good_part (module_of_items items)) (constants_in t (simple_at t word)) ≡ true
  simple_good t simple.True h = truth_good t true h
  simple_good t simple.False h = truth_good t false h
  simple_good t simple.Null h = rw (h, null_range t) refl
  simple_good t simple.Undef h = rw (h, undef_range t) refl
  simple_good t simple.Poison h = rw (h, poison_range t) refl
  simple_good t simple.ZeroInitializer h = rw (h, zero_range t) refl

  mutual
    part_good : (t : Tree) (c : ConstantTree) → is_good t ≡ true → IsSound c → IsFormed c → first_refusal (constant_demands (known_in items) t c) ≡ None
        → list_all (is_good_part (module_of_items items)) (constants_in t (constant_in t c)) ≡ true
    part_good t (IntegerConstant written) h s f e = rw (h, integer_in_range t written) refl
    part_good t (SimpleConstant word place) h s f e = simple_good t word h
    part_good t (AddressConstant name) h s f e =
        let there = held (has_name (known_in items).globals name.name) (faults.UnknownName name.place (spelled_global name.name)) [] e in
        rw (h, address_range t name.name, entries name.name there.0) refl
    part_good t (BytesConstant text) h s f e = rw (h, bytes_range t text.text s) refl
    part_good t (ListConstant place round elements) h s f e =
        let rest = parts_good elements s f e in
        rw (h, list_range t (brackets_in round) (written_in elements), rest) refl
    part_good t (ElementAddress place set source operands) h s f e =
        let parts = both_hold (type_demands (known_in items) source) (constants_demands (known_in items) operands) e in
        let source_good = good_type items unbroken source s.0 parts.0 in
        let rest = parts_good operands s.1 f.2 parts.1 in
        rw (h, source_good, element_range t set (type_in source) (written_in operands), flags_test op.GetElementPtr set f.0, has_test operands f.1, rest) refl
    part_good t (Conversion place opcode from value to) h s f e =
        let first = both_hold (type_demands (known_in items) from) (constant_demands (known_in items) (type_in from) value ++ type_demands (known_in items) to) e in
        let second = both_hold (constant_demands (known_in items) (type_in from) value) (type_demands (known_in items) to) first.1 in
        let from_good = good_type items unbroken from s.0 first.0 in
        let to_good = good_type items unbroken to s.2 second.1 in
        let rest = part_good (type_in from) value from_good s.1 f.1 second.0 in
        rw (h, to_good, cast_range t opcode (type_in from) (constant_in (type_in from) value) (type_in to), cast_test opcode f.0, rest) refl
    part_good t (Arithmetic place opcode set left_type left right_type right) h s f e =
        let known = known_in items in
        let first = both_hold (type_demands known left_type) (constant_demands known (type_in left_type) left ++ (type_demands known right_type ++ constant_demands known (type_in right_type) right)) e in
        let second = both_hold (constant_demands known (type_in left_type) left) (type_demands known right_type ++ constant_demands known (type_in right_type) right) first.1 in
        let third = both_hold (type_demands known right_type) (constant_demands known (type_in right_type) right) second.1 in
        let left_good = part_good (type_in left_type) left (good_type items unbroken left_type s.0 first.0) s.1 f.2 second.0 in
        let right_good = part_good (type_in right_type) right (good_type items unbroken right_type s.2 third.0) s.3 f.3 third.1 in
        let both = all_append (is_good_part (module_of_items items)) (constants_in (type_in left_type) (constant_in (type_in left_type) left)) (constants_in (type_in right_type) (constant_in (type_in right_type) right)) left_good right_good in
        rw (h, binary_range t opcode set (type_in left_type) (constant_in (type_in left_type) left) (type_in right_type) (constant_in (type_in right_type) right), sum_test opcode f.0, flags_test opcode set f.1, both) refl

    parts_good : (cs : ConstantTrees) → AreSound cs → AreFormed cs → first_refusal (constants_demands (known_in items) cs) ≡ None
        → list_all (is_good_part (module_of_items items)) (constants_of (written_in cs)) ≡ true
    parts_good no_constants s f e = refl
    parts_good (more_constants t c cs) s f e =
        let known = known_in items in
        let first = both_hold (type_demands known t) (constant_demands known (type_in t) c ++ constants_demands known cs) e in
        let second = both_hold (constant_demands known (type_in t) c) (constants_demands known cs) first.1 in
        let here = part_good (type_in t) c (good_type items unbroken t s.0 first.0) s.1 f.0 second.0 in
        all_append (is_good_part (module_of_items items)) (constants_in (type_in t) (constant_in (type_in t) c)) (constants_of (written_in cs)) here (parts_good cs s.2 f.1 second.1)

  -- a constant that stands at a good type, of which nothing is asked in vain
  pub good_constant : (t : Tree) (c : ConstantTree) → is_good t ≡ true → IsWell 64 c → IsFormed c → first_refusal (constant_demands (known_in items) t c) ≡ None
      → is_good_constant (module_of_items items) (t, constant_in t c) ≡ true
  good_constant t c h w f e =
      let deep : depth (constant_in t c) ≤ 64 = subst (λ n. n ≤ 64) (sym (same_depth t c)) w.1 in
      and_from (nat_le (depth (constant_in t c)) 64) (list_all (is_good_part (module_of_items items)) (constants_in t (constant_in t c)))
      (le-leb (depth (constant_in t c)) 64 deep) (part_good t c h w.0 f e)

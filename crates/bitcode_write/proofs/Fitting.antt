-- What validity says of constants and lines, as far as their operands need it.
use Rattle.std.proofs.Common.{◌≡◌, ℕ, ◌+◌, ◌-◌, ◌<◌, ◌≤◌, ◌^◌, Bool, true, false, ◌&&◌, ◌||◌, not, nat_lt, nat_le, List, [], ◌∷◌, ◌++◌, map, Option, Some, None, is_some, is_none, refl, sym, ap, subst, arith}
use Rattle.std.specs.List.{list_all, AllByRecursion}
use Rattle.std.proofs.lemmas.Bool.{and_parts, false≢true, ltb-true, ltb-false, leb-true, eqb-true}
use Rattle.std.proofs.lemmas.List.Elements.{All-from_recursion}
use Rattle.std.proofs.Math.Pow.{pow_mono}
use Rattle.type_table.specs.Tree.{Tree, int, ptr, void, array, struct, named, no_trees, more_trees}
use Rattle.module_arena.specs.Module.{LocalName, Constant, Integer, Truth, Null, Undef, Poison, ZeroInitializer, Address, ByteString, Aggregate, ElementAddress, Cast, Binary, Constants, no_constants, more_constants, Value, Local, Known, Operand, Incoming, Operation, BinaryOperation, Compare, Convert, Select, Freeze, Phi, Load, Store, Alloca, GetElementPtr, Call, ExtractValue, InsertValue, Case, Ending, ReturnVoid, Return, Jump, Branch, Switch, Unreachable, Function, Module}
use Rattle.module_arena.specs.Same.{same_type}
use Rattle.module_arena.specs.TypeTests.{is_integer_of, is_pointer, is_void, opened}
use Rattle.module_arena.specs.Constants.{Typed, Expected, each, these, as_written, nothing, expected, fits, parts_fit, element_operands_fit, is_cast_between, constants_in, constants_of}
use Rattle.module_arena.specs.Forms.{is_binary, is_cast, are_flags_of, is_operation_of_phrase, has_result_of_phrase}
use Rattle.module_arena.specs.Operations.{operands, ending_operands, callee, incoming_operand, case_operand}
use Rattle.module_arena.specs.InstructionRules.{operation_alignment_suits}
use Rattle.module_arena.specs.ValueRules.{value_fits, operands_fit, arithmetic_suits, address_suits, element_address_suits, arguments_suit, call_suits, is_pointer_value, is_case_of, ending_suits}
use Rattle.module_arena.specs.WellFormed.{is_good_part, depth, is_good_constant, known_in, known_of_operands}
use Rattle.module_arena.proofs.SameValues.{type_is}
use Rattle.record_table.specs.Standing.{HasRoom, Stands, AllStand, ValueStands, OperandStands, PlaceStands, ArgumentsStand, OperationStands, CallResultStands, ResultStands, CaseStands, EndingStands}

-- both parts of a list pass
pub all_front : {A : Type 0} (p : A → Bool) (xs ys : List A) → list_all p (xs ++ ys) ≡ true → list_all p xs ≡ true
all_front p [] ys h = refl
all_front p (x ∷ xs) ys h = let k = and_parts (p x) (list_all p (xs ++ ys)) h in rw k.0 (all_front p xs ys k.1)

pub all_rest : {A : Type 0} (p : A → Bool) (xs ys : List A) → list_all p (xs ++ ys) ≡ true → list_all p ys ≡ true
all_rest p [] ys h = h
all_rest p (x ∷ xs) ys h = all_rest p xs ys (and_parts (p x) (list_all p (xs ++ ys)) h).1

-- an integer of at most 128 bits has room
room : (width n : ℕ) → width ≤ 128 → n < 2 ^ width → HasRoom (nat_lt 64 width) n
room width n le lt = by_width (nat_lt 64 width) refl where
  by_width : (wide : Bool) → nat_lt 64 width ≡ wide → HasRoom wide n
  by_width true e = let most = pow_mono le in omega (arith, lt, most)
  by_width false e = let few : width ≤ 64 = ltb-false 64 width e in let most = pow_mono few in omega (arith, lt, most)

module _ (m : Module) where
  -- what is asked of the parts of a constant
  parts_good : (t : Tree) (c : Constant) (others : List Typed) → list_all (is_good_part m) ((t, c) ∷ others) ≡ true → list_all (is_good_part m) others ≡ true
  parts_good t c others g = (and_parts (is_good_part m (t, c)) (list_all (is_good_part m) others) g).1

  integer_stands : (width n : ℕ) → list_all (is_good_part m) ((int width, Integer n) ∷ []) ≡ true → HasRoom (nat_lt 64 width) n
  integer_stands width n g =
      let p = and_parts (nat_le 1 width && nat_le width 128) (nat_lt n (2 ^ width) && true) (and_parts (is_good_part m (int width, Integer n)) true g).0 in
      let few = (and_parts (nat_le 1 width) (nat_le width 128) p.0).1 in
      let less = (and_parts (nat_lt n (2 ^ width)) true p.1).0 in
      room width n (leb-true width 128 few) (ltb-true n (2 ^ width) less)

  mutual
    -- a constant that fits its type, of good parts
    pub stands : (t : Tree) (c : Constant) → fits m.structs t c ≡ true → list_all (is_good_part m) (constants_in t c) ≡ true → Stands t c
    stands (int width) (Integer n) f g = integer_stands width n g
    stands ptr (Integer n) f g = absurd (false≢true f)
    stands void (Integer n) f g = absurd (false≢true f)
    stands (array k t) (Integer n) f g = absurd (false≢true f)
    stands (struct packed ts) (Integer n) f g = absurd (false≢true f)
    stands (named name) (Integer n) f g = absurd (false≢true f)
    stands t (Truth b) f g = tt
    stands t Null f g = tt
    stands t Undef f g = tt
    stands t Poison f g = tt
    stands t ZeroInitializer f g = tt
    stands t (Address name) f g = tt
    stands t (ByteString bytes) f g = tt
    stands t (Aggregate round cs) f g = all_stand (expected round (opened m.structs t)) cs f (parts_good t (Aggregate round cs) (constants_of cs) g)
    stands t (ElementAddress set source cs) f g =
        let p = and_parts (is_pointer t) (element_operands_fit m.structs source cs && parts_fit m.structs as_written cs) f in
        all_stand as_written cs (and_parts (element_operands_fit m.structs source cs) (parts_fit m.structs as_written cs) p.1).1 (parts_good t (ElementAddress set source cs) (constants_of cs) g)
    stands t (Cast o from c to) f g =
        let p = and_parts (same_type t to) (is_cast_between o from to && fits m.structs from c) f in
        stands from c (and_parts (is_cast_between o from to) (fits m.structs from c) p.1).1 (parts_good t (Cast o from c to) (constants_in from c) g)
    stands t (Binary o set a x b y) f g =
        let p = and_parts (same_type t a) (same_type t b && (fits m.structs a x && fits m.structs b y)) (and_parts _ (same_type t a && (same_type t b && (fits m.structs a x && fits m.structs b y))) f).1 in
        let q = and_parts (fits m.structs a x) (fits m.structs b y) (and_parts (same_type t b) (fits m.structs a x && fits m.structs b y) p.1).1 in
        let all = parts_good t (Binary o set a x b y) (constants_in a x ++ constants_in b y) g in
        (stands a x q.0 (all_front (is_good_part m) (constants_in a x) (constants_in b y) all), stands b y q.1 (all_rest (is_good_part m) (constants_in a x) (constants_in b y) all))

    pub all_stand : (e : Expected) (cs : Constants) → parts_fit m.structs e cs ≡ true → list_all (is_good_part m) (constants_of cs) ≡ true → AllStand cs
    all_stand e no_constants f g = tt
    all_stand (each n t) (more_constants u c cs) f g =
        let p = and_parts (same_type t u) _ (and_parts (nat_lt 0 n) _ f).1 in
        let q = and_parts (fits m.structs u c) _ p.1 in
        (stands u c q.0 (all_front (is_good_part m) (constants_in u c) (constants_of cs) g), all_stand (each (n - 1) t) cs q.1 (all_rest (is_good_part m) (constants_in u c) (constants_of cs) g))
    all_stand (these no_trees) (more_constants u c cs) f g = absurd (false≢true f)
    all_stand (these (more_trees t ts)) (more_constants u c cs) f g =
        let p = and_parts (same_type t u) _ f in
        let q = and_parts (fits m.structs u c) _ p.1 in
        (stands u c q.0 (all_front (is_good_part m) (constants_in u c) (constants_of cs) g), all_stand (these ts) cs q.1 (all_rest (is_good_part m) (constants_in u c) (constants_of cs) g))
    all_stand as_written (more_constants u c cs) f g =
        let q = and_parts (fits m.structs u c) _ f in
        (stands u c q.0 (all_front (is_good_part m) (constants_in u c) (constants_of cs) g), all_stand as_written cs q.1 (all_rest (is_good_part m) (constants_in u c) (constants_of cs) g))
    all_stand nothing (more_constants u c cs) f g = absurd (false≢true f)

  pub value_stands : (t : Tree) (v : Value) → value_fits m.structs t v ≡ true → list_all (is_good_constant m) (known_in t v) ≡ true → ValueStands t v
  value_stands t (Local name) f g = tt
  value_stands t (Known c) f g =
      let good = (and_parts (is_good_constant m (t, c)) true g).0 in
      stands t c f (and_parts (nat_le (depth c) 64) (list_all (is_good_part m) (constants_in t c)) good).1

  pub operands_stand : (os : List Operand) → operands_fit m.structs os ≡ true → list_all (is_good_constant m) (known_of_operands os) ≡ true → AllByRecursion OperandStands os
  operands_stand [] f g = tt
  operands_stand (o ∷ os) f g =
      let p = and_parts (value_fits m.structs o.ty o.value) (operands_fit m.structs os) f in
      (value_stands o.ty o.value p.0 (all_front (is_good_constant m) (known_in o.ty o.value) (known_of_operands os) g), operands_stand os p.1 (all_rest (is_good_constant m) (known_in o.ty o.value) (known_of_operands os) g))

-- ---- places

place : (t : Tree) (o : Operand) → o.ty ≡ t → OperandStands o → PlaceStands t o
place t o e s = (e, subst (λ (u : Tree). ValueStands u o.value) e s)

one_bit : (t : Tree) → is_integer_of 1 t ≡ true → t ≡ int 1
one_bit (int width) h = ap int (eqb-true width 1 h)
one_bit ptr h = absurd (false≢true h)
one_bit void h = absurd (false≢true h)
one_bit (array n t) h = absurd (false≢true h)
one_bit (struct packed ts) h = absurd (false≢true h)
one_bit (named name) h = absurd (false≢true h)

pointer : (t : Tree) → is_pointer t ≡ true → t ≡ ptr
pointer (int width) h = absurd (false≢true h)
pointer ptr h = refl
pointer void h = absurd (false≢true h)
pointer (array n t) h = absurd (false≢true h)
pointer (struct packed ts) h = absurd (false≢true h)
pointer (named name) h = absurd (false≢true h)

further : (os : List Operand) → AllByRecursion OperandStands os → ArgumentsStand [] os
further [] all = tt
further (x ∷ xs) all = (all.0, further xs all.1)

arguments : (variadic : Bool) (ts : List Tree) (os : List Operand) → arguments_suit variadic ts os ≡ true → AllByRecursion OperandStands os → ArgumentsStand ts os
arguments variadic [] os h all = further os all
arguments variadic (t ∷ ts) [] h all = tt
arguments variadic (t ∷ ts) (x ∷ xs) h all =
    let p = and_parts (same_type t x.ty) (arguments_suit variadic ts xs) h in
    (place t x (sym (type_is t x.ty p.0)) all.0, arguments variadic ts xs p.1 all.1)

incoming_stand : (t : Tree) (is : List Incoming) → AllByRecursion OperandStands (map (incoming_operand t) is) → AllByRecursion (λ (i : Incoming). ValueStands t i.value) is
incoming_stand t [] all = tt
incoming_stand t (i ∷ is) all = (all.0, incoming_stand t is all.1)

cases_stand : (t : Tree) (cs : List Case) → list_all (is_case_of t) cs ≡ true → AllByRecursion OperandStands (map case_operand cs) → AllByRecursion (CaseStands t) cs
cases_stand t [] h all = tt
cases_stand t (c ∷ cs) h all =
    let p = and_parts (is_case_of t c) (list_all (is_case_of t) cs) h in
    let same : c.ty ≡ t = type_is c.ty t (and_parts (same_type c.ty t) _ p.0).0 in
    ((same, subst (λ (u : Tree). Stands u c.value) same all.0), cases_stand t cs p.1 all.1)

-- none, or it stands for an address
abbrev pub CalleeStands : Option Value → Type 0
CalleeStands None = Unit {0}
CalleeStands (Some v) = ValueStands ptr v

module _ (m : Module) (f : Function) where
  pub operation_stands : (o : Operation) (result : Option LocalName) → is_operation_of_phrase o ≡ true → operation_alignment_suits o ≡ true → arithmetic_suits o ≡ true → address_suits o ≡ true
      → element_address_suits m.structs o ≡ true → call_suits m.structs f result o ≡ true → AllByRecursion OperandStands (operands o) → CalleeStands (callee o) → OperationStands o
  operation_stands (BinaryOperation o set a b) result phrase align numbers address element call all called = ((and_parts (is_binary o) (are_flags_of o set) phrase).0, all.0, all.1.0)
  operation_stands (Compare set p a b) result phrase align numbers address element call all called = (all.0, all.1.0)
  operation_stands (Convert o set a t) result phrase align numbers address element call all called = ((and_parts (is_cast o) (are_flags_of o set) phrase).0, all.0)
  operation_stands (Select c a b) result phrase align numbers address element call all called =
      let p = and_parts (is_integer_of 1 c.ty) (same_type a.ty b.ty) numbers in
      (place (int 1) c (one_bit c.ty p.0) all.0, all.1.0, place a.ty b (sym (type_is a.ty b.ty p.1)) all.1.1.0)
  operation_stands (Freeze a) result phrase align numbers address element call all called = all.0
  operation_stands (Phi t incoming) result phrase align numbers address element call all called = All-from_recursion (λ (i : Incoming). ValueStands t i.value) incoming (incoming_stand t incoming all)
  operation_stands (Load set t a alignment) result phrase align numbers address element call all called = (place ptr a (pointer a.ty address) all.0, align)
  operation_stands (Store set v a alignment) result phrase align numbers address element call all called = (all.0, place ptr a (pointer a.ty address) all.1.0, align)
  operation_stands (Alloca t None alignment) result phrase align numbers address element call all called = (tt, align)
  operation_stands (Alloca t (Some o) alignment) result phrase align numbers address element call all called = (all.0, align)
  operation_stands (GetElementPtr set t base indices) result phrase align numbers address element call all called =
      (place ptr base (pointer base.ty (and_parts (is_pointer base.ty) _ element).0) all.0, All-from_recursion OperandStands indices all.1)
  operation_stands (Call s v os) result phrase align numbers address element call all called =
      let p = and_parts (is_pointer_value m.structs f v) (arguments_suit s.variadic s.parameters os && (not (is_void s.returns) || is_none result)) call in
      (called, arguments s.variadic s.parameters os (and_parts (arguments_suit s.variadic s.parameters os) (not (is_void s.returns) || is_none result) p.1).0 all)
  operation_stands (ExtractValue a indices) result phrase align numbers address element call all called = all.0
  operation_stands (InsertValue a part indices) result phrase align numbers address element call all called = (all.0, all.1.0)

  call_result : (empty : Bool) (result : Option LocalName) → (not empty || is_none result) ≡ true → (is_some result || empty) ≡ true → CallResultStands empty result
  call_result true None h k = tt
  call_result true (Some name) h k = absurd (false≢true h)
  call_result false None h k = absurd (false≢true k)
  call_result false (Some name) h k = tt

  pub result_stands : (o : Operation) (result : Option LocalName) → has_result_of_phrase o (is_some result) ≡ true → call_suits m.structs f result o ≡ true → ResultStands o result
  result_stands (Call s v os) result given call =
      let p = and_parts (is_pointer_value m.structs f v) (arguments_suit s.variadic s.parameters os && (not (is_void s.returns) || is_none result)) call in
      call_result (is_void s.returns) result (and_parts (arguments_suit s.variadic s.parameters os) (not (is_void s.returns) || is_none result) p.1).1 given
  result_stands _ result given call = tt

  pub ending_stands : (e : Ending) → ending_suits f e ≡ true → AllByRecursion OperandStands (ending_operands e) → EndingStands e
  ending_stands ReturnVoid h all = tt
  ending_stands (Return v) h all = all.0
  ending_stands (Jump b) h all = tt
  ending_stands (Branch c a b) h all = place (int 1) c (one_bit c.ty h) all.0
  ending_stands (Switch v b cases) h all =
      let p = and_parts (list_all (is_case_of v.ty) cases) _ (and_parts _ _ h).1 in
      (all.0, All-from_recursion (CaseStands v.ty) cases (cases_stand v.ty cases p.0 all.1))
  ending_stands Unreachable h all = tt

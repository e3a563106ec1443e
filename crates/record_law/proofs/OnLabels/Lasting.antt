-- What holds of a walk, and goes on to hold whatever is taken from it or asked of it, holds behind every line.
use Rattle.std.proofs.Common.{◌≡◌, refl, ◌+◌, ◌*◌, ◌^◌, ℕ, zero, suc, Bool, true, false, cond, List, [], ◌∷◌, Option, Some, None, nat_lt, length}
use Rattle.std.specs.Prelude.{nat_le, nat_eq, slice_index_or, find}
use Rattle.ir_tables.specs.declared.opcode.Opcode.{Opcode}
use Rattle.ir_tables.specs.declared.opcode.Opcode.TheVariants as op
use Rattle.ir_tables.specs.Opcode.{opcode_code}
use Rattle.ir_tables.specs.declared.predicate.Predicate.TheVariants.{Eq}
use Rattle.ir_tables.specs.Predicate.{predicate_code, predicate_of_code}
use Rattle.type_table.specs.Tree.{Tree, int, ptr, void, array, struct, named}
use Rattle.module_arena.specs.Constants.{is_bytes_of}
use Rattle.module_arena.specs.Module as m
use Rattle.module_arena.specs.TypeTests.{is_pointer, is_void}
use Rattle.record_table.specs.Walk.{Walk, going, stopped, ask, stop, break, next}
use Rattle.record_table.specs.Layout.{Layout, ◌&◌, ◌&>◌, found_or, coded, counted, counted_some, is_positive, many, option, option_by}
use Rattle.record_table.specs.Fields.{Texts, Numbering, byte, text, ty, global, local, block, index, truth, label, alignment, predicate, flags, is_label, label_by, version_1}
use Rattle.record_table.specs.StringTable.{is_within, label_at, read_only}
use Rattle.record_table.specs.Constants.{ConstantForm, Number, NullPointer, Undefined, Poisoned, Zero, Global, Listed, Bytewise, Element, Converted, Computed, Parts, Reads, integer, integer_at, parts, typed, listed, element, converted, computed, bytewise, of_form, read_nested, value, value_by, parts_of, has_parts, first_part, later_parts, cast_opcode, binary_opcode, one_of, form_of_code}
use Rattle.record_table.specs.Lines.{arguments, arguments_by, incoming, instruction, known_type, result_by, return_type, typed_value}

-- it goes on to hold
pub record Lasts (P : Walk → Type 0) : Type 0 where
  pub taken : (w : Walk) → P w → P (next w).1
  pub asked : (rule : ℕ) (b : Bool) (w : Walk) → P w → P (ask rule b w)
  pub stopped_by : (rule : ℕ) (w : Walk) → P w → P (stop rule w)
  pub broken_by : (rule : ℕ) (w : Walk) → P w → P (break rule w)

-- and does so behind that reading
abbrev pub Keeps : {A : Type 0} → (Walk → Type 0) → (Walk → A × Walk) → Type 0
Keeps P read = (w : Walk) → P w → P (read w).1

module _ (P : Walk → Type 0) (h : Lasts P) where
  -- ---- lists, options and codes

  pub many_keeps : {A : Type 0} (one : Walk → A × Walk) → Keeps P one → (n : ℕ) → Keeps P (many one n)
  unfolding many
  many_keeps one each zero w p = p
  many_keeps one each (suc n) (stopped broken) p = p
  many_keeps one each (suc n) (going rest broken) p = many_keeps one each n (one (going rest broken)).1 (each (going rest broken) p)

  counted_keeps : {A : Type 0} (l : Layout A) → Keeps P l.read → Keeps P (counted l).read
  counted_keeps l each w p = many_keeps l.read each (next w).0 (next w).1 (h.taken w p)

  counted_some_keeps : {A : Type 0} (l : Layout A) → Keeps P l.read → Keeps P (counted_some l).read
  counted_some_keeps l each w p = many_keeps l.read each (next w).0 (ask 1 (is_positive (next w).0) (next w).1) (h.asked 1 (is_positive (next w).0) (next w).1 (h.taken w p))

  option_by_keeps : {A : Type 0} (l : Layout A) → Keeps P l.read → (n : ℕ) → Keeps P (option_by l n)
  unfolding option_by
  option_by_keeps l each zero w p = p
  option_by_keeps l each (suc zero) w p = each w p
  option_by_keeps l each (suc (suc n)) w p = h.stopped_by 3 w p

  option_keeps : {A : Type 0} (l : Layout A) → Keeps P l.read → Keeps P (option l).read
  option_keeps l each w p = option_by_keeps l each (next w).0 (next w).1 (h.taken w p)

  found_keeps : {A : Type 0} (other : A) (o : Option A) → Keeps P (found_or other o)
  found_keeps other None w p = h.broken_by 3 w p
  found_keeps other (Some x) w p = p

  coded_keeps : {A : Type 0} (code : A → ℕ) (of_code : ℕ → Option A) (other : A) → Keeps P (coded code of_code other).read
  coded_keeps code of_code other w p = found_keeps other (of_code (next w).0) (next w).1 (h.taken w p)

  one_of_keeps : (allowed : List Opcode) (other : Opcode) → Keeps P (one_of allowed other).read
  one_of_keeps allowed other w p = coded_keeps opcode_code (λ code. find (λ o. nat_eq (opcode_code o) code) allowed) other w p

  byte_keeps : Keeps P byte.read
  byte_keeps w p = h.asked 3 (nat_lt (next w).0 256) (next w).1 (h.taken w p)

  -- ---- constants

  integer_keeps : (t : Tree) → Keeps P (integer t)
  unfolding integer
  integer_keeps (int width) w p = by (nat_le width 64)
    where
      by : (b : Bool) → P (cond {A = m.Constant × Walk} b (integer_at width (next w).0 (next w).1) (integer_at width ((next w).0 + 2 ^ 64 * (next (next w).1).0) (next (next w).1).1)).1
      by true = h.asked 3 (nat_lt (next w).0 (2 ^ width)) (next w).1 (h.taken w p)
      by false = h.asked 3 (nat_lt ((next w).0 + 2 ^ 64 * (next (next w).1).0) (2 ^ width)) (next (next w).1).1 (h.taken (next w).1 (h.taken w p))
  integer_keeps ptr w p = h.stopped_by 6 w p
  integer_keeps void w p = h.stopped_by 6 w p
  integer_keeps (array n t) w p = h.stopped_by 6 w p
  integer_keeps (struct packed ts) w p = h.stopped_by 6 w p
  integer_keeps (named name) w p = h.stopped_by 6 w p

  parts_keeps : (one : Reads) → ((t : Tree) → Keeps P (one t)) → (n : ℕ) (ps : Parts) → Keeps P (parts one n ps)
  unfolding parts
  parts_keeps one each zero ps w p = p
  parts_keeps one each (suc n) ps (stopped broken) p = p
  parts_keeps one each (suc n) ps (going rest broken) p = parts_keeps one each n (later_parts ps) (one (first_part ps) (going rest broken)).1 (each (first_part ps) (going rest broken) p)

  typed_keeps : (t : Layout Tree) → Keeps P t.read → (one : Reads) → ((t : Tree) → Keeps P (one t)) → (n : ℕ) → Keeps P (typed t one n)
  unfolding typed
  typed_keeps t of one each zero w p = p
  typed_keeps t of one each (suc n) (stopped broken) p = p
  typed_keeps t of one each (suc n) (going rest broken) p =
      let v = t.read (going rest broken) in
      typed_keeps t of one each n (one v.0 v.1).1 (each v.0 v.1 (of (going rest broken) p))

  module _ (k : Numbering) where
    ty_keeps : Keeps P (ty k).read
    ty_keeps w p = h.asked 2 (nat_lt (next w).0 (length k.types)) (next w).1 (h.taken w p)

    block_keeps : Keeps P (block k).read
    block_keeps w p = h.asked 2 (nat_lt (next w).0 (length k.blocks)) (next w).1 (h.taken w p)

    local_keeps : Keeps P (local k).read
    local_keeps w p = h.asked 2 (nat_lt (next w).0 (length k.values)) (next w).1 (h.taken w p)

    global_keeps : Keeps P (global k).read
    global_keeps w p = h.asked 2 (nat_lt (next w).0 (length k.globals)) (next w).1 (h.taken w p)

    flags_keeps : (o : Opcode) → Keeps P (flags o).read
    flags_keeps o w p = h.asked 3 _ (next w).1 (h.taken w p)

    -- a form whose parts are read by that reading
    module _ (inner : Reads) (each : (t : Tree) → Keeps P (inner t)) where
      listed_keeps : (t : Tree) → Keeps P (listed k inner t)
      listed_keeps t w p =
          parts_keeps inner each (next w).0 (parts_of k.structs t) (ask 6 (has_parts (parts_of k.structs t) (next w).0) (next w).1)
          (h.asked 6 (has_parts (parts_of k.structs t) (next w).0) (next w).1 (h.taken w p))

      element_keeps : (t : Tree) → Keeps P (element k inner t)
      element_keeps t w p =
          let v = ask 6 (is_pointer t) w in
          let f = (flags op.GetElementPtr).read v in
          let source = (ty k).read f.1 in
          let base = inner ptr source.1 in
          typed_keeps (ty k) ty_keeps inner each (next base.1).0 (next base.1).1
          (h.taken base.1 (each ptr source.1 (ty_keeps f.1 (flags_keeps op.GetElementPtr v (h.asked 6 (is_pointer t) w p)))))

      converted_keeps : (t : Tree) → Keeps P (converted k inner t)
      converted_keeps t w p =
          let o = cast_opcode.read w in
          let from = (ty k).read o.1 in
          each from.0 from.1 (ty_keeps o.1 (one_of_keeps (op.Trunc ∷ op.PtrToInt ∷ op.IntToPtr ∷ []) op.Trunc w p))

      computed_keeps : (t : Tree) → Keeps P (computed k inner t)
      computed_keeps t w p =
          let o = binary_opcode.read w in
          let f = (flags o.0).read o.1 in
          each t (inner t f.1).1 (each t f.1 (flags_keeps o.0 o.1 (one_of_keeps (op.Add ∷ op.Sub ∷ op.Xor ∷ []) op.Xor w p)))

    bytewise_keeps : (t : Tree) → Keeps P (bytewise k t)
    bytewise_keeps t w p = h.asked 6 (is_bytes_of (length (text.read w).0) t) (text.read w).1 (counted_keeps byte byte_keeps w p)

    abbrev AreInner : Option Reads → Type 0
    AreInner None = Unit {0}
    AreInner (Some inner) = (t : Tree) → Keeps P (inner t)

    form_keeps : (inner : Option Reads) → AreInner inner → (form : Option ConstantForm) (t : Tree) → Keeps P (of_form k inner form t)
    unfolding of_form
    form_keeps inner each None t w p = h.stopped_by 3 w p
    form_keeps inner each (Some Number) t w p = integer_keeps t w p
    form_keeps inner each (Some NullPointer) t w p = h.asked 6 (is_pointer t) w p
    form_keeps inner each (Some Undefined) t w p = p
    form_keeps inner each (Some Poisoned) t w p = p
    form_keeps inner each (Some Zero) t w p = p
    form_keeps inner each (Some Global) t w p = global_keeps (ask 6 (is_pointer t) w) (h.asked 6 (is_pointer t) w p)
    form_keeps None each (Some Listed) t w p = h.stopped_by 7 w p
    form_keeps (Some inner) each (Some Listed) t w p = listed_keeps inner each t w p
    form_keeps inner each (Some Bytewise) t w p = bytewise_keeps t w p
    form_keeps None each (Some Element) t w p = h.stopped_by 7 w p
    form_keeps (Some inner) each (Some Element) t w p = element_keeps inner each t w p
    form_keeps None each (Some Converted) t w p = h.stopped_by 7 w p
    form_keeps (Some inner) each (Some Converted) t w p = converted_keeps inner each t w p
    form_keeps None each (Some Computed) t w p = h.stopped_by 7 w p
    form_keeps (Some inner) each (Some Computed) t w p = computed_keeps inner each t w p

    nested_keeps : (depth : ℕ) (t : Tree) → Keeps P (read_nested k depth t)
    unfolding read_nested
    nested_keeps zero t w p = form_keeps None tt (form_of_code (next w).0) t (next w).1 (h.taken w p)
    nested_keeps (suc deep) t w p = form_keeps (Some (read_nested k deep)) (nested_keeps deep) (form_of_code (next w).0) t (next w).1 (h.taken w p)

    value_by_keeps : (t : Tree) (n : ℕ) → Keeps P (value_by k t n)
    unfolding value_by
    value_by_keeps t zero w p = local_keeps w p
    value_by_keeps t (suc code) w p = form_keeps (Some (read_nested k 63)) (nested_keeps 63) (form_of_code (suc code)) t w p

    value_keeps : (t : Tree) → Keeps P (value k t).read
    value_keeps t w p = value_by_keeps t (next w).0 (next w).1 (h.taken w p)

    -- ---- lines

    typed_value_keeps : Keeps P (typed_value k).read
    typed_value_keeps w p = value_keeps ((ty k).read w).0 ((ty k).read w).1 (ty_keeps w p)

    incoming_keeps : (t : Tree) → Keeps P (incoming k t).read
    incoming_keeps t w p = block_keeps ((value k t).read w).1 (value_keeps t w p)

    arguments_by_keeps : (n : ℕ) (ts : List Tree) → Keeps P (arguments_by k n ts)
    unfolding arguments_by
    arguments_by_keeps zero ts w p = p
    arguments_by_keeps (suc n) ts (stopped broken) p = p
    arguments_by_keeps (suc n) [] (going rest broken) p = arguments_by_keeps n [] ((typed_value k).read (going rest broken)).1 (typed_value_keeps (going rest broken) p)
    arguments_by_keeps (suc n) (t ∷ ts) (going rest broken) p = arguments_by_keeps n ts ((value k t).read (going rest broken)).1 (value_keeps t (going rest broken) p)

    arguments_keeps : (ts : List Tree) → Keeps P (arguments k ts).read
    arguments_keeps ts w p = arguments_by_keeps (next w).0 ts (next w).1 (h.taken w p)

    index_keeps : Keeps P index.read
    index_keeps w p = h.asked 3 _ (next w).1 (h.taken w p)

    truth_keeps : Keeps P truth.read
    truth_keeps w p = h.asked 3 _ (next w).1 (h.taken w p)

    alignment_keeps : Keeps P alignment.read
    alignment_keeps w p = h.asked 7 _ (next w).1 (h.taken w p)

    pub known_keeps : (n : ℕ) → Keeps P (known_type k n)
    unfolding known_type
    known_keeps n w p = by (nat_lt n (length k.types))
      where
        by : (b : Bool) → P (cond {A = Tree × Walk} b (slice_index_or k.types n void, w) (void, stop 2 w)).1
        by true = p
        by false = h.stopped_by 2 w p

    pub returned_keeps : Keeps P (return_type k).read
    returned_keeps w p = known_keeps (next w).0 (next w).1 (h.taken w p)

    -- what stands behind the name of the result of a call
    pub call_keeps : (w : Walk) → P w → P ((truth & counted (ty k) &> λ ts. value k ptr & arguments k ts).read w).1
    call_keeps w p =
        let flag = truth.read w in
        let ts = (counted (ty k)).read flag.1 in
        let callee = (value k ptr).read ts.1 in
        arguments_keeps ts.0 callee.1 (value_keeps ptr ts.1 (counted_keeps (ty k) ty_keeps flag.1 (truth_keeps w p)))

    -- what stands behind the name of the result of another instruction, from behind that name on
    flags_values_keeps : (o : Opcode) → Keeps P (flags o & ty k &> λ t. value k t & value k t).read
    flags_values_keeps o w p =
        let f = (flags o).read w in
        let t = (ty k).read f.1 in
        let a = (value k t.0).read t.1 in
        value_keeps t.0 a.1 (value_keeps t.0 t.1 (ty_keeps f.1 (flags_keeps o w p)))

    conversion_keeps : (o : Opcode) → Keeps P (flags o & (ty k &> λ t. value k t) & ty k).read
    conversion_keeps o w p =
        let f = (flags o).read w in
        let t = (ty k).read f.1 in
        let a = (value k t.0).read t.1 in
        ty_keeps a.1 (value_keeps t.0 t.1 (ty_keeps f.1 (flags_keeps o w p)))

    module _ (texts : Texts) (own : ℕ) where
      -- an instruction that is no call: what holds behind the name of its result holds behind it
      pub named_keeps : (o : Opcode) (w : Walk) → (o ≡ op.Call → ⊥) → (o ≡ op.Store → ⊥) → P ((label texts own).read w).1 → P ((instruction texts k own o).read w).1
      named_keeps op.ICmp w call store p =
          let v = ((label texts own).read w).1 in
          let f = (flags op.ICmp).read v in
          let c = predicate.read f.1 in
          let t = (ty k).read c.1 in
          let a = (value k t.0).read t.1 in
          value_keeps t.0 a.1 (value_keeps t.0 t.1 (ty_keeps c.1 (coded_keeps predicate_code predicate_of_code Eq f.1 (flags_keeps op.ICmp v p))))
      named_keeps op.Trunc w call store p = conversion_keeps op.Trunc ((label texts own).read w).1 p
      named_keeps op.ZExt w call store p = conversion_keeps op.ZExt ((label texts own).read w).1 p
      named_keeps op.SExt w call store p = conversion_keeps op.SExt ((label texts own).read w).1 p
      named_keeps op.PtrToInt w call store p = conversion_keeps op.PtrToInt ((label texts own).read w).1 p
      named_keeps op.IntToPtr w call store p = conversion_keeps op.IntToPtr ((label texts own).read w).1 p
      named_keeps op.Select w call store p =
          let v = ((label texts own).read w).1 in
          let t = (ty k).read v in
          let c = (value k (int 1)).read t.1 in
          let a = (value k t.0).read c.1 in
          value_keeps t.0 a.1 (value_keeps t.0 c.1 (value_keeps (int 1) t.1 (ty_keeps v p)))
      named_keeps op.Freeze w call store p = typed_value_keeps ((label texts own).read w).1 p
      named_keeps op.Phi w call store p =
          let v = ((label texts own).read w).1 in
          let t = (ty k).read v in
          counted_some_keeps (incoming k t.0) (incoming_keeps t.0) t.1 (ty_keeps v p)
      named_keeps op.Load w call store p =
          let v = ((label texts own).read w).1 in
          let f = (flags op.Load).read v in
          let t = (ty k).read f.1 in
          let a = (value k ptr).read t.1 in
          alignment_keeps a.1 (value_keeps ptr t.1 (ty_keeps f.1 (flags_keeps op.Load v p)))
      named_keeps op.Store w call store p = absurd (store refl)
      named_keeps op.Alloca w call store p =
          let v = ((label texts own).read w).1 in
          let t = (ty k).read v in
          let c = (option (typed_value k)).read t.1 in
          alignment_keeps c.1 (option_keeps (typed_value k) typed_value_keeps t.1 (ty_keeps v p))
      named_keeps op.GetElementPtr w call store p =
          let v = ((label texts own).read w).1 in
          let f = (flags op.GetElementPtr).read v in
          let t = (ty k).read f.1 in
          let a = (value k ptr).read t.1 in
          counted_keeps (typed_value k) typed_value_keeps a.1 (value_keeps ptr t.1 (ty_keeps f.1 (flags_keeps op.GetElementPtr v p)))
      named_keeps op.Call w call store p = absurd (call refl)
      named_keeps op.ExtractValue w call store p =
          let v = ((label texts own).read w).1 in
          counted_some_keeps index index_keeps ((typed_value k).read v).1 (typed_value_keeps v p)
      named_keeps op.InsertValue w call store p =
          let v = ((label texts own).read w).1 in
          let a = (typed_value k).read v in
          counted_some_keeps index index_keeps ((typed_value k).read a.1).1 (typed_value_keeps a.1 (typed_value_keeps v p))
      named_keeps o w call store p = flags_values_keeps o ((label texts own).read w).1 p

      -- a call
      pub call_named_keeps : (w : Walk) → let t = (return_type k).read w in P ((result_by texts own (is_void t.0)).read t.1).1 → P ((instruction texts k own op.Call).read w).1
      call_named_keeps w p = call_keeps ((result_by texts own (is_void ((return_type k).read w).0)).read ((return_type k).read w).1).1 p

  -- ---- names

  label_by_keeps : (n : ℕ) → Keeps P (label_by n)
  unfolding label_by
  label_by_keeps zero w p = p
  label_by_keeps (suc size) w p = many_keeps byte.read byte_keeps size w p

  -- in version 1
  pub inline_keeps : (own : ℕ) → Keeps P (label version_1 own).read
  inline_keeps own w p = h.asked 4 (is_label (label_by (next w).0 (next w).1).0) (label_by (next w).0 (next w).1).1 (label_by_keeps (next w).0 (next w).1 (h.taken w p))

  label_at_keeps : (table : List ℕ) (n : ℕ) → Keeps P (label_at table n)
  unfolding label_at
  label_at_keeps table zero w p = p
  label_at_keeps table (suc size) w p = h.asked 8 (is_within table (next w).0 size) (next w).1 (h.taken w p)

  -- in a table
  pub table_keeps : (table : List ℕ) (own : ℕ) → Keeps P (label (read_only table) own).read
  table_keeps table own w p = h.asked 4 (is_label (label_at table (next w).0 (next w).1).0) (label_at table (next w).0 (next w).1).1 (label_at_keeps table (next w).0 (next w).1 (h.taken w p))

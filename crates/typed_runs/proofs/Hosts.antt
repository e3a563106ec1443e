-- Host functions give what their types say, and keep memory typed.
use Rattle.std.proofs.Common.{◌≡◌, ℕ, ◌+◌, ◌%◌, ◌^◌, ◌<◌, List, [], ◌∷◌, ◌++◌, length, map, refl, sym, ap, ◌∙◌, subst, arith, Result, Ok, Err, Bool, true, false, ◌&&◌, nat_eq, true≢false, lit<, lit≤, inl, inr}
use Rattle.std.specs.Prelude.{IfOk, ⊤, if◌then◌else◌}
use Rattle.std.specs.List.{AllZip, list_any}
use Rattle.std.specs.Bool.{beq}
use Rattle.std.proofs.lemmas.List.{append-nil}
use Rattle.ir_tables.specs.declared.undefined_kind.UndefinedKind.TheVariants.{PoisonArgument}
use Rattle.std.proofs.lemmas.Bool.{and_parts, or_cases}
use Rattle.std.proofs.lemmas.Nat.{mod_below, pow_pos}
use Rattle.std.proofs.lemmas.List.Elements.{All-nil, All-cons, All-append}
use Rattle.ir_tables.specs.declared.undefined_kind.UndefinedKind.{UndefinedKind}
use Rattle.ir_eval.specs.declared.value.Pointer.{Pointer}
use Rattle.ir_eval.specs.declared.value.Scalar.{Scalar}
use Rattle.ir_eval.specs.declared.value.Scalar.TheVariants as scalar
use Rattle.ir_memory.specs.declared.leaf.Leaf.{Leaf}
use Rattle.ir_memory.specs.declared.leaf.Leaf.TheVariants as leaf
use Rattle.ir_memory.specs.declared.kind.BlockKind.TheVariants.{Heap}
use Rattle.ir_memory.specs.Given.{IsBlock}
use Rattle.ir_memory.specs.Memory.{Blocks, added, ended, copied, filled}
use Rattle.module_arena.specs.declared.host.HostRow.{HostRow}
use Rattle.module_arena.specs.declared.host.HostRow.TheVariants.{Putchar, Puts, Getchar, Exit, Abort, Malloc, Free, Memcpy, Memmove, Memset, Strlen, MemcpyI64, MemmoveI64, MemsetI64, MemcpyI32, MemmoveI32, MemsetI32, LifetimeStart, LifetimeEnd, Printf, Integer}
use Rattle.module_arena.specs.HostRows.{host_types, fixed, integer_returns, integer_parameters}
use Rattle.run_rules.specs.declared.end.End.TheVariants as ends
use Rattle.run_rules.specs.Access.{and_then, string_at, has_room, next_block}
use Rattle.ir_tables.specs.declared.intrinsic.Intrinsic.{Intrinsic}
use Rattle.ir_eval.specs.Value.{IsWidth}
use Rattle.ir_intrinsics.specs.Results.{apply_of}
use Rattle.linkage_rules.specs.SameShape.{same_shape}
use Rattle.linkage_rules.proofs.Shapes.{shape_exact}
use Rattle.type_table.specs.Shape.{Shape, int_leaf, ptr_leaf}
use Rattle.module_arena.proofs.SameValues.{beq_is}
use Rattle.run_rules.specs.Action.{Signature}
use Rattle.run_rules.specs.Calls.{same_signature, same_shape_list}
use Rattle.run_rules.specs.Answer.{Answer, Gives, Reads, Halts, changes, undefined}
use Rattle.run_rules.specs.Host.{operand_at, outcome_leaves, evaluates, done, host, puts_line, counts, allocates, frees, is_poison}
use Rattle.run_rules.specs.Printing.{printed, prints, written_from}
use Rattle.run_rules.specs.Look.{no_names}
use Rattle.run_rules.specs.Resolve.{signature_in}
use Rattle.typed_runs.specs.Actions.{AreArguments}
use Rattle.typed_runs.specs.Kinds.{IsNumberOf, IsPointerTo, IsOf, kinds_of, kinds_of_all}
use Rattle.typed_runs.specs.States.{IsRow, IsTypedMemory, IsLater}
use Rattle.typed_runs.proofs.Access.{AreBytes, string_at_typed, string_at_short}
use Rattle.typed_runs.proofs.Integers.{evaluated}
use Rattle.typed_runs.proofs.Printings.{printed_are}
use Rattle.typed_runs.proofs.Memory.{IsKeptTyped, later_of, added_typed, ended_typed, copied_typed, filled_typed}

-- the result is of these kinds, memory is typed, and bytes are written; a byte of the input is an i32
abbrev pub IsTypedAnswer : Blocks → List Leaf → Answer → Type 0
IsTypedAnswer m kinds (Gives result n output) = AllZip (IsOf (length n.list)) kinds result × IsTypedMemory n × IsLater m n × AreBytes output
IsTypedAnswer m kinds Reads = kinds ≡ leaf.Int 32 ∷ []
IsTypedAnswer m kinds (Halts end) = ⊤

-- ---- types that are the same

pub shapes_same : (ss us : List Shape) → same_shape_list ss us ≡ true → ss ≡ us
shapes_same [] [] e = refl
shapes_same [] (u ∷ us) e = absurd (true≢false (sym e))
shapes_same (s ∷ ss) [] e = absurd (true≢false (sym e))
shapes_same (s ∷ ss) (u ∷ us) e =
    let p = and_parts (same_shape s u) (same_shape_list ss us) e in
    ap (λ x. x ∷ ss) (shape_exact s u p.0) ∙ ap (λ (xs : List Shape). u ∷ xs) (shapes_same ss us p.1)

pub signature_exact : (a b : Signature) → same_signature a b ≡ true → a ≡ b
signature_exact a b e =
    let p = and_parts (same_shape a.returns b.returns) (same_shape_list a.parameters b.parameters && beq a.variadic b.variadic) e in
    let q = and_parts (same_shape_list a.parameters b.parameters) (beq a.variadic b.variadic) p.1 in
    λ i. record {
      returns = shape_exact a.returns b.returns p.0 i;
      parameters = shapes_same a.parameters b.parameters q.0 i;
      variadic = beq_is a.variadic b.variadic q.1 i;
    }

-- ---- arguments that are not poison

abbrev IsFull : ℕ → Leaf → Scalar → Type 0
IsFull count kind (scalar.Int number) = IsNumberOf number kind
IsFull count kind (scalar.Ptr p) = IsPointerTo count p.block kind
IsFull count kind scalar.Poison = ⊥

-- what holds of all arguments of these kinds
abbrev Takes : ℕ → List Leaf → (List Scalar → Type 0) → Type 0
Takes count [] Q = Q []
Takes count (leaf.Int width ∷ ks) Q = (n : ℕ) → n < 2 ^ width → Takes count ks (λ vs. Q (scalar.Int n ∷ vs))
Takes count (leaf.Ptr ∷ ks) Q = (p : Pointer) → IsBlock count p.block → Takes count ks (λ vs. Q (scalar.Ptr p ∷ vs))

by_kinds : (count : ℕ) (ks : List Leaf) (Q : List Scalar → Type 0) → Takes count ks Q → (vs : List Scalar) → AllZip (IsFull count) ks vs → Q vs
by_kinds count [] Q h [] is = h
by_kinds count [] Q h (v ∷ vs) is = absurd is
by_kinds count (k ∷ ks) Q h [] is = absurd is
by_kinds count (leaf.Int w ∷ ks) Q h (scalar.Int n ∷ vs) is = by_kinds count ks (λ vs. Q (scalar.Int n ∷ vs)) (h n is.0) vs is.1
by_kinds count (leaf.Int w ∷ ks) Q h (scalar.Ptr p ∷ vs) is = absurd is.0
by_kinds count (leaf.Ptr ∷ ks) Q h (scalar.Int n ∷ vs) is = absurd is.0
by_kinds count (leaf.Ptr ∷ ks) Q h (scalar.Ptr p ∷ vs) is = by_kinds count ks (λ vs. Q (scalar.Ptr p ∷ vs)) (h p is.0) vs is.1
by_kinds count (k ∷ ks) Q h (scalar.Poison ∷ vs) is = absurd is.0

are_full : (count : ℕ) (ks : List Leaf) (vs : List Scalar) → AllZip (IsOf count) ks vs → list_any is_poison vs ≡ false → AllZip (IsFull count) ks vs
are_full count [] [] h p = tt
are_full count [] (v ∷ vs) h p = absurd h
are_full count (k ∷ ks) [] h p = absurd h
are_full count (k ∷ ks) (scalar.Int n ∷ vs) h p = (h.0, are_full count ks vs h.1 p)
are_full count (k ∷ ks) (scalar.Ptr q ∷ vs) h p = (h.0, are_full count ks vs h.1 p)
are_full count (k ∷ ks) (scalar.Poison ∷ vs) h p = absurd (true≢false p)

-- ---- each row

-- of each, by recursion
abbrev pub Each : {A : Type 0} → (A → Type 0) → List A → Type 0
Each P [] = ⊤
Each P (x ∷ xs) = P x × Each P xs

-- where no further arguments may be given
pub all_parameters : (used : Signature) (shapes : List Shape) (are : AreArguments used shapes) → used.variadic ≡ false → shapes ≡ used.parameters
all_parameters used shapes are fixed = are.1 ∙ ap (λ (xs : List Shape). used.parameters ++ xs) (are.2 fixed) ∙ append-nil used.parameters

-- i32 (ptr, ...)
abbrev printf_type : Signature
printf_type = record { returns = int_leaf 32; parameters = ptr_leaf ∷ []; variadic = true }

module _ (m : Blocks) (is : IsTypedMemory m) where
  memory : IsTypedMemory m
  memory = is

  no_bytes : AreBytes []
  no_bytes = All-nil (λ b. b < 256)

  changes_typed : (kinds : List Leaf) (result : List Scalar) (r : Result Blocks UndefinedKind) → AllZip (IsOf (length m.list)) kinds result → IfOk r (IsKeptTyped m) → IsTypedAnswer m kinds (changes result r)
  changes_typed kinds result (Err e) h k = tt
  changes_typed kinds result (Ok n) h k = (subst (λ count. AllZip (IsOf count) kinds result) (sym k.1.0) h, k.0, later_of m n k.1, no_bytes)

  puts_typed : (r : Result (List ℕ) UndefinedKind) → IfOk r AreBytes → IsTypedAnswer m (leaf.Int 32 ∷ []) (puts_line m r)
  puts_typed (Err e) h = tt
  puts_typed (Ok bytes) h =
      ((pow_pos 32, tt), is, later_of m m (refl, refl), All-append (λ b. b < 256) bytes (10 ∷ []) h (All-cons (λ b. b < 256) 10 [] (lit< tt) no_bytes))

  counts_typed : (r : Result (List ℕ) UndefinedKind) → IfOk r (λ bytes. length bytes < 2 ^ 64) → IsTypedAnswer m (leaf.Int 64 ∷ []) (counts m r)
  counts_typed (Err e) h = tt
  counts_typed (Ok bytes) h = ((h, tt), is, later_of m m (refl, refl), no_bytes)

  allocates_typed : (size : ℕ) → IsTypedAnswer m (leaf.Ptr ∷ []) (allocates size m)
  allocates_typed size = go (has_room size m) refl
    where
      go : (b : Bool) → has_room size m ≡ b → IsTypedAnswer m (leaf.Ptr ∷ []) (if b then Gives (scalar.Ptr (next_block 16 m) ∷ []) (added size 16 Heap m) [] else Halts ends.MemoryLimit)
      go false e = tt
      go true e =
          let a = added_typed size 16 Heap m (4, lit≤ tt, refl) e is in
          ((a.2, tt), a.0, a.1, no_bytes)

  frees_typed : (p : Pointer) → IsTypedAnswer m [] (frees p m)
  frees_typed p = go (nat_eq p.address 0)
    where
      go : (b : Bool) → IsTypedAnswer m [] (if b then Gives [] m [] else changes [] (ended (scalar.Ptr p) Heap m))
      go true = (tt, is, later_of m m (refl, refl), no_bytes)
      go false = changes_typed [] [] (ended (scalar.Ptr p) Heap m) tt (ended_typed m (scalar.Ptr p) Heap is)

  nothing_given : IsTypedAnswer m [] (Gives [] m [])
  nothing_given = (tt, is, later_of m m (refl, refl), no_bytes)

  -- the row does what its type says
  abbrev IsCarriedOut : HostRow → Signature → Type 0
  IsCarriedOut row s =
      (s.variadic ≡ false)
      × ((vs : List Scalar) → AllZip (IsFull (length m.list)) (kinds_of_all s.parameters) vs → IsTypedAnswer m (kinds_of s.returns) (done row vs m))

  abbrev int : ℕ → Leaf
  int width = leaf.Int width

  abbrev ptr : Leaf
  ptr = leaf.Ptr

  by : (row : HostRow) (ks returns : List Leaf) → Takes (length m.list) ks (λ vs. IsTypedAnswer m returns (done row vs m)) → (vs : List Scalar) → AllZip (IsFull (length m.list)) ks vs → IsTypedAnswer m returns (done row vs m)
  by row ks returns h = by_kinds (length m.list) ks (λ vs. IsTypedAnswer m returns (done row vs m)) h

  -- the rows but those that take poison
  abbrev IsPlain : HostRow → Type 0
  IsPlain Printf = ⊥
  IsPlain (Integer which width) = ⊥
  IsPlain _ = ⊤

  row_typed : (row : HostRow) → IsPlain row → Each (IsCarriedOut row) (map (signature_in no_names) (host_types row))
  row_typed Putchar plain = (
    (
      refl,
      by Putchar (int 32 ∷ []) (int 32 ∷ [])
          (λ n lt. ((let small = mod_below n 256 (lit< tt) in let less : 256 < 2 ^ 32 = lit< tt in omega (arith, small, less), tt), is, later_of m m (refl, refl), All-cons (λ b. b < 256) (n % 256) [] (mod_below n 256 (lit< tt)) no_bytes)),
    ),
    tt,
  )
  row_typed Puts plain = ((refl, by Puts (ptr ∷ []) (int 32 ∷ []) (λ p k. puts_typed (string_at m p) (string_at_typed m p is))), tt)
  row_typed Getchar plain = ((refl, by Getchar [] (int 32 ∷ []) refl), tt)
  row_typed Exit plain = ((refl, by Exit (int 32 ∷ []) [] (λ n lt. tt)), tt)
  row_typed Abort plain = ((refl, by Abort [] [] tt), tt)
  row_typed Malloc plain = ((refl, by Malloc (int 64 ∷ []) (ptr ∷ []) (λ n lt. allocates_typed n)), tt)
  row_typed Free plain = ((refl, by Free (ptr ∷ []) [] (λ p k. frees_typed p)), tt)
  row_typed Memcpy plain = (
    (
      refl,
      by Memcpy (ptr ∷ ptr ∷ int 64 ∷ []) (ptr ∷ [])
          (λ p k q l n lt. changes_typed (ptr ∷ []) (scalar.Ptr p ∷ []) (copied (scalar.Ptr p) (scalar.Ptr q) n false m) (k, tt) (copied_typed m (scalar.Ptr p) (scalar.Ptr q) n false is)),
    ),
    tt,
  )
  row_typed Memmove plain = (
    (
      refl,
      by Memmove (ptr ∷ ptr ∷ int 64 ∷ []) (ptr ∷ [])
          (λ p k q l n lt. changes_typed (ptr ∷ []) (scalar.Ptr p ∷ []) (copied (scalar.Ptr p) (scalar.Ptr q) n true m) (k, tt) (copied_typed m (scalar.Ptr p) (scalar.Ptr q) n true is)),
    ),
    tt,
  )
  row_typed Memset plain = (
    (
      refl,
      by Memset (ptr ∷ int 32 ∷ int 64 ∷ []) (ptr ∷ [])
          (λ p k b l n lt. changes_typed (ptr ∷ []) (scalar.Ptr p ∷ []) (filled (scalar.Ptr p) (b % 256) n m) (k, tt) (filled_typed m (scalar.Ptr p) (b % 256) n is)),
    ),
    tt,
  )
  row_typed Strlen plain = ((refl, by Strlen (ptr ∷ []) (int 64 ∷ []) (λ p k. counts_typed (string_at m p) (string_at_short m p is))), tt)
  row_typed MemcpyI64 plain = (
    (
      refl,
      by MemcpyI64 (ptr ∷ ptr ∷ int 64 ∷ int 1 ∷ []) []
          (λ p k q l n lt v u. changes_typed [] [] (copied (scalar.Ptr p) (scalar.Ptr q) n false m) tt (copied_typed m (scalar.Ptr p) (scalar.Ptr q) n false is)),
    ),
    tt,
  )
  row_typed MemmoveI64 plain = (
    (
      refl,
      by MemmoveI64 (ptr ∷ ptr ∷ int 64 ∷ int 1 ∷ []) []
          (λ p k q l n lt v u. changes_typed [] [] (copied (scalar.Ptr p) (scalar.Ptr q) n true m) tt (copied_typed m (scalar.Ptr p) (scalar.Ptr q) n true is)),
    ),
    tt,
  )
  row_typed MemsetI64 plain = (
    (
      refl,
      by MemsetI64 (ptr ∷ int 8 ∷ int 64 ∷ int 1 ∷ []) []
          (λ p k b l n lt v u. changes_typed [] [] (filled (scalar.Ptr p) b n m) tt (filled_typed m (scalar.Ptr p) b n is)),
    ),
    tt,
  )
  row_typed MemcpyI32 plain = (
    (
      refl,
      by MemcpyI32 (ptr ∷ ptr ∷ int 32 ∷ int 1 ∷ []) []
          (λ p k q l n lt v u. changes_typed [] [] (copied (scalar.Ptr p) (scalar.Ptr q) n false m) tt (copied_typed m (scalar.Ptr p) (scalar.Ptr q) n false is)),
    ),
    tt,
  )
  row_typed MemmoveI32 plain = (
    (
      refl,
      by MemmoveI32 (ptr ∷ ptr ∷ int 32 ∷ int 1 ∷ []) []
          (λ p k q l n lt v u. changes_typed [] [] (copied (scalar.Ptr p) (scalar.Ptr q) n true m) tt (copied_typed m (scalar.Ptr p) (scalar.Ptr q) n true is)),
    ),
    tt,
  )
  row_typed MemsetI32 plain = (
    (
      refl,
      by MemsetI32 (ptr ∷ int 8 ∷ int 32 ∷ int 1 ∷ []) []
          (λ p k b l n lt v u. changes_typed [] [] (filled (scalar.Ptr p) b n m) tt (filled_typed m (scalar.Ptr p) b n is)),
    ),
    tt,
  )
  row_typed LifetimeStart plain = ((refl, λ vs h. nothing_given), ((refl, λ vs h. nothing_given), tt))
  row_typed LifetimeEnd plain = ((refl, λ vs h. nothing_given), ((refl, λ vs h. nothing_given), tt))
  row_typed Printf plain = absurd plain
  row_typed (Integer which width) plain = absurd plain

  -- a call by one of the types
  by_type : (row : HostRow) (used : Signature) (ss : List Signature) → list_any (same_signature used) ss ≡ true → Each (IsCarriedOut row) ss → IsCarriedOut row used
  by_type row used [] e h = absurd (true≢false (sym e))
  by_type row used (s ∷ ss) e h = elim (or_cases (same_signature used s) (list_any (same_signature used) ss) e) [
    | inl y ↦ subst (IsCarriedOut row) (sym (signature_exact used s y)) h.0
    | inr n ↦ by_type row used ss n h.1
  ]

  plain_typed : (row : HostRow) → IsPlain row → (used : Signature) (shapes : List Shape) (vs : List Scalar) → list_any (same_signature used) (map (signature_in no_names) (host_types row)) ≡ true
      → AreArguments used shapes → AllZip (IsOf (length m.list)) (kinds_of_all shapes) vs → IsTypedAnswer m (kinds_of used.returns) (if list_any is_poison vs then undefined PoisonArgument else done row vs m)
  plain_typed row plain used shapes vs e are h = go (list_any is_poison vs) refl
    where
      carried : IsCarriedOut row used
      carried = by_type row used (map (signature_in no_names) (host_types row)) e (row_typed row plain)

      same : shapes ≡ used.parameters
      same = all_parameters used shapes are carried.0

      go : (b : Bool) → list_any is_poison vs ≡ b → IsTypedAnswer m (kinds_of used.returns) (if b then undefined PoisonArgument else done row vs m)
      go true p = tt
      go false p = carried.1 vs (are_full (length m.list) (kinds_of_all used.parameters) vs (subst (λ ss. AllZip (IsOf (length m.list)) (kinds_of_all ss) vs) same h) p)

  -- the one type of a row
  only : (used s : Signature) → list_any (same_signature used) (s ∷ []) ≡ true → used ≡ s
  only used s e = elim (or_cases (same_signature used s) false e) [
    | inl y ↦ signature_exact used s y
    | inr n ↦ absurd (true≢false (sym n))
  ]

  integer_typed : (which : Intrinsic) (width : ℕ) (used : Signature) (shapes : List Shape) (vs : List Scalar) → IsWidth width → used ≡ signature_in no_names (fixed (integer_returns which width) (integer_parameters which width))
      → AreArguments used shapes → AllZip (IsOf (length m.list)) (kinds_of_all shapes) vs → IsTypedAnswer m (kinds_of used.returns) (evaluates which width vs m)
  integer_typed which width used shapes vs is e are h = (
    subst (λ (s : Signature). AllZip (IsOf (length m.list)) (kinds_of s.returns) (outcome_leaves (apply_of which width (operand_at vs 0) (operand_at vs 1) (operand_at vs 2)))) (sym e)
        (evaluated (length m.list) width which vs is
        (subst (λ (s : Signature). AllZip (IsOf (length m.list)) (kinds_of_all s.parameters) vs) e
        (subst (λ ss. AllZip (IsOf (length m.list)) (kinds_of_all ss) vs) (all_parameters used shapes are (ap (λ (s : Signature). s.variadic) e)) h))),
    memory,
    later_of m m (refl, refl),
    no_bytes,
  )

  printed_typed : (r : Result (List ℕ) UndefinedKind) → IfOk r AreBytes → IsTypedAnswer m (leaf.Int 32 ∷ []) (printed m r)
  printed_typed (Err e) h = tt
  printed_typed (Ok bytes) h = ((mod_below (length bytes) (2 ^ 32) (pow_pos 32), tt), memory, later_of m m (refl, refl), h)

  prints_typed : (shapes : List Shape) (vs : List Scalar) → IsTypedAnswer m (leaf.Int 32 ∷ []) (prints shapes vs m)
  prints_typed (s ∷ ss) (scalar.Ptr p ∷ vs) = printed_typed (and_then (string_at m p) (λ pattern. written_from m pattern (length pattern + 1) 0 ss vs)) (printed_are m memory p ss vs)
  prints_typed [] vs = tt
  prints_typed (s ∷ ss) [] = tt
  prints_typed (s ∷ ss) (scalar.Int n ∷ vs) = tt
  prints_typed (s ∷ ss) (scalar.Poison ∷ vs) = tt

  pub host_typed : (row : HostRow) → IsRow row → (used : Signature) (shapes : List Shape) (vs : List Scalar) → list_any (same_signature used) (map (signature_in no_names) (host_types row)) ≡ true
      → AreArguments used shapes → AllZip (IsOf (length m.list)) (kinds_of_all shapes) vs → IsTypedAnswer m (kinds_of used.returns) (host row shapes vs m)
  host_typed (Integer which width) is used shapes vs e are h = integer_typed which width used shapes vs is.0 (only used (signature_in no_names (fixed (integer_returns which width) (integer_parameters which width))) e) are h
  host_typed Printf is used shapes vs e are h =
      subst (λ (s : Signature). IsTypedAnswer m (kinds_of s.returns) (prints shapes vs m)) (sym (only used printf_type e)) (prints_typed shapes vs)
  host_typed row is used shapes vs e are h = plain_typed row tt used shapes vs e are h

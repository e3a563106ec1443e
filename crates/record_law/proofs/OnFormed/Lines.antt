-- The lines of a body that are read where no rule is broken: each is of its phrase, with good types and values, and names what is there.
use Rattle.std.proofs.Common.{◌≡◌, ℕ, zero, suc, Bool, true, false, ◌||◌, List, [], ◌∷◌, length, get_or, map, cond, Option, Some, None, nat_lt, refl, ap, ◌∙◌, ◌⊎◌, inl, inr}
use Rattle.std.specs.Prelude.{is_some}
use Rattle.std.specs.Option.{option_to_list}
use Rattle.std.specs.List.{AllByRecursion}
use Rattle.std.proofs.lemmas.Bool.{and_from, ltb-true}
use Rattle.ir_tables.specs.declared.opcode.Opcode.{Opcode}
use Rattle.ir_tables.specs.declared.opcode.Opcode.TheVariants as op
use Rattle.type_table.specs.Tree.{Tree, int, ptr, void}
use Rattle.module_arena.specs.Forms.{are_flags_of, are_indices, has_result_of_phrase, is_binary, is_cast, is_instruction_of_phrase, is_not_empty, is_operation_of_phrase}
use Rattle.module_arena.specs.Module.{LocalName, Value, Operand, Incoming, Operation, BinaryOperation, Compare, Convert, Select, Freeze, Phi, Load, Store, Alloca, GetElementPtr, ExtractValue, InsertValue, Instruction, Case, Ending, Switch, Unreachable, Module}
use Rattle.module_arena.specs.Names.{blocks_of_operation}
use Rattle.module_arena.specs.Operations.{callee, case_operand, ending_operands, incoming_operand, operands, targets}
use Rattle.module_arena.specs.Same.{has_local}
use Rattle.module_arena.specs.TypeTests.{is_void}
use Rattle.module_arena.specs.WellFormed.{is_good_constant, is_good_type, types_of_operation}
use Rattle.record_table.specs.Walk.{Walk, going, stopped, stop, next}
use Rattle.record_table.specs.Layout.{◌&◌}
use Rattle.record_table.specs.Fields.{Texts, Numbering, block, label}
use Rattle.record_table.specs.Constants.{value}
use Rattle.record_table.specs.Lines.{arguments, arguments_by, branch_of, call_of, CallParts, case_of, computation, conversion, doing, ending, giving, instruction, is_end, known_type, operand, result_by, return_of, return_type, typed_value}
use Rattle.record_law.proofs.OnFormed.Tests.{all_pass, each_passes}
use Rattle.record_law.proofs.OnFormed.Texts.{HoldsTexts, IsCalled, label_read}
use Rattle.record_law.proofs.OnFormed.Unbroken.{Any, IsFine, IsRead, IsSound, OfEither, OfSome, at_place, behind_read, both_read, counted_read, counted_some_read, either_read, mapped_read, never_stopped, next_back, next_sound, nothing_read, option_read, stopped_sound}
use Rattle.record_law.proofs.OnFormed.Good.{IsOf}
use Rattle.record_law.proofs.OnFormed.Constants.{constant_read, flags_read, ty_read}
use Rattle.record_law.proofs.OnFormed.Fields.{IsIncoming, IsOperand, IsValue, alignment_read, block_read, incoming_read, index_read, predicate_read, truth_read, typed_read, typed_value_read, value_read}

module _ (m : Module) (k : Numbering) (of : IsOf m k) where
  -- what an instruction does, but for its result
  pub record IsOperation (o : Operation) : Type 0 where
    pub phrase : is_operation_of_phrase o ≡ true
    pub operands_good : AllByRecursion (IsOperand m k of) (operands o)
    pub callee_good : OfSome (IsValue m k of ptr) (callee o)
    pub types_good : AllByRecursion (λ t. is_good_type m.structs t ≡ true) (types_of_operation o)
    pub blocks_there : AllByRecursion (λ b. has_local k.blocks b ≡ true) (blocks_of_operation o)

  -- an instruction, where the next without a name has that number
  pub record IsLine (own : ℕ) (i : Instruction) : Type 0 where
    pub operation_good : IsOperation i.operation
    pub phrase : is_instruction_of_phrase i ≡ true
    pub result_called : OfSome (IsCalled own) i.result

  -- an end of a block
  pub record IsEnd (e : Ending) : Type 0 where
    pub operands_good : AllByRecursion (IsOperand m k of) (ending_operands e)
    pub targets_there : AllByRecursion (λ b. has_local k.blocks b ≡ true) (targets e)

  operand_is : (t : Tree) (v : Value) → is_good_type m.structs t ≡ true → (is_good_type m.structs t ≡ true → IsValue m k of t v) → IsOperand m k of (operand t v)
  operand_is t v g h = record { ty_good = g; value_good = h g }

  incoming_are : (t : Tree) (all : List Incoming) → is_good_type m.structs t ≡ true → AllByRecursion (IsIncoming m k of t) all → AllByRecursion (IsOperand m k of) (map (incoming_operand t) all)
  incoming_are t [] g h = tt
  incoming_are t (i ∷ all) g h = (record { ty_good = g; value_good = h.0.0 g }, incoming_are t all g h.1)

  blocks_are : (t : Tree) (all : List Incoming) → AllByRecursion (IsIncoming m k of t) all → AllByRecursion (λ b. has_local k.blocks b ≡ true) (map (λ i. i.block) all)
  blocks_are t [] h = tt
  blocks_are t (i ∷ all) h = (h.0.1, blocks_are t all h.1)

  counted_is : (o : Option Operand) → OfSome (IsOperand m k of) o → AllByRecursion (IsOperand m k of) (option_to_list o)
  counted_is None h = tt
  counted_is (Some x) h = (h, tt)

  -- ---- the arguments of a call

  args_back : (n : ℕ) (ts : List Tree) (w : Walk) → IsFine (arguments_by k n ts w).1 → IsFine w × (AllByRecursion (λ t. is_good_type m.structs t ≡ true) ts → AllByRecursion (IsOperand m k of) (arguments_by k n ts w).0)
  unfolding arguments_by
  args_back zero ts w h = (h, λ g. tt)
  args_back (suc n) ts (stopped broken) h = absurd h
  args_back (suc n) [] (going rest broken) h =
      let x = (typed_value k).read (going rest broken) in
      let later = args_back n [] x.1 h in
      let here = (typed_value_read m k of).back (going rest broken) later.0 in
      (here.0, λ g. (here.1, later.1 g))
  args_back (suc n) (t ∷ ts) (going rest broken) h =
      let v = (value k t).read (going rest broken) in
      let later = args_back n ts v.1 h in
      let here = (value_read m k of t).back (going rest broken) later.0 in
      (here.0, λ g. (operand_is t v.0 g.0 here.1, later.1 g.1))

  args_sound : (n : ℕ) (ts : List Tree) (w : Walk) → IsSound w → IsSound (arguments_by k n ts w).1
  unfolding arguments_by
  args_sound zero ts w s = s
  args_sound (suc n) ts (stopped broken) s = s
  args_sound (suc n) [] (going rest broken) s = args_sound n [] ((typed_value k).read (going rest broken)).1 ((typed_value_read m k of).sound (going rest broken) s)
  args_sound (suc n) (t ∷ ts) (going rest broken) s = args_sound n ts ((value k t).read (going rest broken)).1 ((value_read m k of t).sound (going rest broken) s)

  arguments_read : (ts : List Tree) → IsRead (λ xs. AllByRecursion (λ t. is_good_type m.structs t ≡ true) ts → AllByRecursion (IsOperand m k of) xs) (arguments k ts).read
  arguments_read ts = record {
    back = λ w h. let r = args_back (next w).0 ts (next w).1 h in (next_back w r.0, r.1);
    sound = λ w s. args_sound (next w).0 ts (next w).1 (next_sound w s);
  }

  known_by : (b : Bool) (n : ℕ) (w : Walk) → nat_lt n (length k.types) ≡ b → IsFine (cond {A = Tree × Walk} b (get_or k.types n void, w) (void, stop 2 w)).1
      → IsFine w × (is_good_type m.structs (cond {A = Tree × Walk} b (get_or k.types n void, w) (void, stop 2 w)).0 ≡ true)
  known_by true n w e h = (h, at_place (λ t. is_good_type m.structs t ≡ true) k.types void n (each_passes (is_good_type m.structs) k.types of.types_good) (ltb-true n (length k.types) e))
  known_by false n w e h = absurd (never_stopped 2 w h)

  known_back : (n : ℕ) (w : Walk) → IsFine (known_type k n w).1 → IsFine w × (is_good_type m.structs (known_type k n w).0 ≡ true)
  unfolding known_type
  known_back n w h = known_by (nat_lt n (length k.types)) n w refl h

  known_sound : (n : ℕ) (w : Walk) → IsSound w → IsSound (known_type k n w).1
  unfolding known_type
  known_sound n w s = by (nat_lt n (length k.types))
    where
      by : (b : Bool) → IsSound (cond {A = Tree × Walk} b (get_or k.types n void, w) (void, stop 2 w)).1
      by true = s
      by false = stopped_sound 2 w s

  return_read : IsRead (λ t. is_good_type m.structs t ≡ true) (return_type k).read
  return_read = record {
    back = λ w h. let r = known_back (next w).0 (next w).1 h in (next_back w r.0, r.1);
    sound = λ w s. known_sound (next w).0 (next w).1 (next_sound w s);
  }

  -- ---- ends

  case_is : (t : Tree) (c : Case) → is_good_type m.structs t ≡ true → (c.ty ≡ t) × ((is_good_type m.structs t ≡ true → is_good_constant m (t, c.value) ≡ true) × (has_local k.blocks c.target ≡ true))
      → IsOperand m k of (case_operand c)
  case_is t c g h = record {
    ty_good = ap (is_good_type m.structs) h.0 ∙ g;
    value_good = ap (λ u. is_good_constant m (u, c.value)) h.0 ∙ h.1.0 g;
  }

  abbrev IsCase : Tree → Case → Type 0
  IsCase t c = (c.ty ≡ t) × ((is_good_type m.structs t ≡ true → is_good_constant m (t, c.value) ≡ true) × (has_local k.blocks c.target ≡ true))

  case_read : (t : Tree) → IsRead (IsCase t) (case_of k t).read
  case_read t = mapped_read (both_read (constant_read m k of t) (block_read m k of)) (IsCase t) (λ (c, b). record { ty = t; value = c; target = b }) (λ x h. (refl, h))

  cases_are : (t : Tree) (cases : List Case) → is_good_type m.structs t ≡ true → AllByRecursion (IsCase t) cases → AllByRecursion (IsOperand m k of) (map case_operand cases)
  cases_are t [] g h = tt
  cases_are t (c ∷ cases) g h = (case_is t c g h.0, cases_are t cases g h.1)

  targets_are : (t : Tree) (cases : List Case) → AllByRecursion (IsCase t) cases → AllByRecursion (λ b. has_local k.blocks b ≡ true) (map (λ c. c.target) cases)
  targets_are t [] h = tt
  targets_are t (c ∷ cases) h = (h.0.1.1, targets_are t cases h.1)

  returned : (o : Option Operand) → OfSome (IsOperand m k of) o → IsEnd (return_of o)
  returned None h = record { operands_good = tt; targets_there = tt }
  returned (Some v) h = record { operands_good = (h, tt); targets_there = tt }

  branched : (x : LocalName ⊎ (Value × (LocalName × LocalName)))
      → OfEither (λ b. has_local k.blocks b ≡ true) (λ y. (is_good_type m.structs (int 1) ≡ true → IsValue m k of (int 1) y.0) × ((has_local k.blocks y.1.0 ≡ true) × (has_local k.blocks y.1.1 ≡ true))) x → IsEnd (branch_of x)
  branched (inl b) h = record { operands_good = tt; targets_there = (h, tt) }
  branched (inr (c, (a, b))) h = record { operands_good = (operand_is (int 1) c refl h.0, tt); targets_there = (h.1.0, (h.1.1, tt)) }

  switched : (x : Tree × (Value × (LocalName × List Case)))
      → (is_good_type m.structs x.0 ≡ true) × ((is_good_type m.structs x.0 ≡ true → IsValue m k of x.0 x.1.0) × ((has_local k.blocks x.1.1.0 ≡ true) × AllByRecursion (IsCase x.0) x.1.1.1))
      → IsEnd (Switch (operand x.0 x.1.0) x.1.1.0 x.1.1.1)
  switched (t, (v, (b, cases))) h = record {
    operands_good = (operand_is t v h.0 h.1.0, cases_are t cases h.0 h.1.1.1);
    targets_there = (h.1.1.0, targets_are t cases h.1.1.1);
  }

  -- an end
  pub end_read : (o : Opcode) → is_end o ≡ true → IsRead IsEnd (ending k o).read
  end_read op.Ret e = mapped_read (option_read (IsOperand m k of) (typed_value k) (typed_value_read m k of)) IsEnd return_of returned
  end_read op.Br e = mapped_read
      (either_read (λ b. has_local k.blocks b ≡ true) (λ y. (is_good_type m.structs (int 1) ≡ true → IsValue m k of (int 1) y.0) × ((has_local k.blocks y.1.0 ≡ true) × (has_local k.blocks y.1.1 ≡ true)))
      (block k) (value k (int 1) & block k & block k) (block_read m k of) (both_read (value_read m k of (int 1)) (both_read (block_read m k of) (block_read m k of))))
      IsEnd branch_of branched
  end_read op.Switch e = mapped_read
      (behind_read (ty_read m k of) (λ t. both_read (value_read m k of t) (both_read (block_read m k of) (counted_read (case_read t)))))
      IsEnd (λ (t, (v, (b, cases))). Switch (operand t v) b cases) switched
  end_read op.Unreachable e = mapped_read nothing_read IsEnd (λ u. Unreachable) (λ u h. record { operands_good = tt; targets_there = tt })
  end_read _ e = absurd (cc)

  -- ---- instructions

  module _ (texts : Texts) (holds : HoldsTexts texts) where
    given : (own : ℕ) (name : LocalName) (o : Operation) → IsCalled own name → has_result_of_phrase o true ≡ true → IsOperation o → IsLine own (giving name o)
    given own name o called has is = record {
      operation_good = is;
      phrase = and_from (is_operation_of_phrase o) (has_result_of_phrase o true) is.phrase has;
      result_called = called;
    }

    -- an instruction with a result, whose parts are read so
    giving_read : {A : Type 0} {P : A → Type 0} {one : Walk → A × Walk} (own : ℕ) → IsRead P one → (to : A → Operation) → ((x : A) → P x → IsOperation (to x) × (has_result_of_phrase (to x) true ≡ true))
        → IsRead (IsLine own) (λ w. let x = (label texts own).read w in let y = one x.1 in (giving x.0 (to y.0), y.1))
    giving_read own is to keeps =
        mapped_read (both_read (label_read texts holds own) is) (IsLine own) (λ (name, x). giving name (to x)) (λ x h. let y = keeps x.1 h.1 in given own x.0 (to x.1) h.0 y.1 y.0)

    computation_read : (own : ℕ) (o : Opcode) → is_binary o ≡ true → IsRead (IsLine own) (computation texts k own o).read
    computation_read own o binary = giving_read own
        (both_read (flags_read o) (behind_read (ty_read m k of) (λ t. both_read (value_read m k of t) (value_read m k of t))))
        (λ (f, (t, (a, b))). BinaryOperation o f (operand t a) b)
        (λ x h. (
          record {
            phrase = and_from (is_binary o) (are_flags_of o x.0) binary h.0;
            operands_good = (operand_is x.1.0 x.1.1.0 h.1.0 h.1.1.0, (operand_is x.1.0 x.1.1.1 h.1.0 h.1.1.1, tt));
            callee_good = tt;
            types_good = tt;
            blocks_there = tt;
          },
          refl,
        ))

    conversion_read : (own : ℕ) (o : Opcode) → is_cast o ≡ true → IsRead (IsLine own) (conversion texts k own o).read
    conversion_read own o cast = giving_read own
        (both_read (flags_read o) (both_read (typed_read m k of) (ty_read m k of)))
        (λ (f, ((t, a), to)). Convert o f (operand t a) to)
        (λ x h. (
          record {
            phrase = and_from (is_cast o) (are_flags_of o x.0) cast h.0;
            operands_good = (operand_is x.1.0.0 x.1.0.1 h.1.0.0 h.1.0.1, tt);
            callee_good = tt;
            types_good = (h.1.1, tt);
            blocks_there = tt;
          },
          refl,
        ))

    compare_read : (own : ℕ) → IsRead (IsLine own) (instruction texts k own op.ICmp).read
    compare_read own = giving_read own
        (both_read (flags_read op.ICmp) (both_read predicate_read (behind_read (ty_read m k of) (λ t. both_read (value_read m k of t) (value_read m k of t)))))
        (λ (f, (p, (t, (a, b)))). Compare f p (operand t a) b)
        (λ x h. (
          record {
            phrase = h.0;
            operands_good = (operand_is x.1.1.0 x.1.1.1.0 h.1.1.0 h.1.1.1.0, (operand_is x.1.1.0 x.1.1.1.1 h.1.1.0 h.1.1.1.1, tt));
            callee_good = tt;
            types_good = tt;
            blocks_there = tt;
          },
          refl,
        ))

    select_read : (own : ℕ) → IsRead (IsLine own) (instruction texts k own op.Select).read
    select_read own = giving_read own
        (behind_read (ty_read m k of) (λ t. both_read (value_read m k of (int 1)) (both_read (value_read m k of t) (value_read m k of t))))
        (λ (t, (c, (a, b))). Select (operand (int 1) c) (operand t a) (operand t b))
        (λ x h. (
          record {
            phrase = refl;
            operands_good = (operand_is (int 1) x.1.0 refl h.1.0, (operand_is x.0 x.1.1.0 h.0 h.1.1.0, (operand_is x.0 x.1.1.1 h.0 h.1.1.1, tt)));
            callee_good = tt;
            types_good = tt;
            blocks_there = tt;
          },
          refl,
        ))

    freeze_read : (own : ℕ) → IsRead (IsLine own) (instruction texts k own op.Freeze).read
    freeze_read own = giving_read own (typed_read m k of)
        (λ (t, a). Freeze (operand t a))
        (λ x h. (record { phrase = refl; operands_good = (operand_is x.0 x.1 h.0 h.1, tt); callee_good = tt; types_good = tt; blocks_there = tt }, refl))

    phi_read : (own : ℕ) → IsRead (IsLine own) (instruction texts k own op.Phi).read
    phi_read own = giving_read own
        (behind_read (ty_read m k of) (λ t. counted_some_read (incoming_read m k of t)))
        (λ (t, all). Phi t all)
        (λ x h. (
          record {
            phrase = h.1.1;
            operands_good = incoming_are x.0 x.1 h.0 h.1.0;
            callee_good = tt;
            types_good = (h.0, tt);
            blocks_there = blocks_are x.0 x.1 h.1.0;
          },
          refl,
        ))

    load_read : (own : ℕ) → IsRead (IsLine own) (instruction texts k own op.Load).read
    load_read own = giving_read own
        (both_read (flags_read op.Load) (both_read (ty_read m k of) (both_read (value_read m k of ptr) alignment_read)))
        (λ (f, (t, (a, align))). Load f t (operand ptr a) align)
        (λ x h. (
          record {
            phrase = and_from (are_flags_of op.Load x.0) _ h.0 h.1.1.1;
            operands_good = (operand_is ptr x.1.1.0 refl h.1.1.0, tt);
            callee_good = tt;
            types_good = (h.1.0, tt);
            blocks_there = tt;
          },
          refl,
        ))

    store_read : (own : ℕ) → IsRead (IsLine own) (instruction texts k own op.Store).read
    store_read own = mapped_read
        (both_read (flags_read op.Store) (both_read (typed_read m k of) (both_read (value_read m k of ptr) alignment_read)))
        (IsLine own)
        (λ (f, ((t, v), (a, align))). doing (Store f (operand t v) (operand ptr a) align))
        (λ x h. record {
          operation_good = record {
            phrase = and_from (are_flags_of op.Store x.0) _ h.0 h.1.1.1;
            operands_good = (operand_is x.1.0.0 x.1.0.1 h.1.0.0 h.1.0.1, (operand_is ptr x.1.1.0 refl h.1.1.0, tt));
            callee_good = tt;
            types_good = tt;
            blocks_there = tt;
          };
          phrase = and_from _ true (and_from (are_flags_of op.Store x.0) _ h.0 h.1.1.1) refl;
          result_called = tt;
        })

    alloca_read : (own : ℕ) → IsRead (IsLine own) (instruction texts k own op.Alloca).read
    alloca_read own = giving_read own
        (both_read (ty_read m k of) (both_read (option_read (IsOperand m k of) (typed_value k) (typed_value_read m k of)) alignment_read))
        (λ (t, (count, align)). Alloca t count align)
        (λ x h. (record { phrase = h.1.1; operands_good = counted_is x.1.0 h.1.0; callee_good = tt; types_good = (h.0, tt); blocks_there = tt }, refl))

    element_read : (own : ℕ) → IsRead (IsLine own) (instruction texts k own op.GetElementPtr).read
    element_read own = giving_read own
        (both_read (flags_read op.GetElementPtr) (both_read (ty_read m k of) (both_read (value_read m k of ptr) (counted_read (typed_value_read m k of)))))
        (λ (f, (t, (a, indices))). GetElementPtr f t (operand ptr a) indices)
        (λ x h. (
          record {
            phrase = h.0;
            operands_good = (operand_is ptr x.1.1.0 refl h.1.1.0, h.1.1.1);
            callee_good = tt;
            types_good = (h.1.0, tt);
            blocks_there = tt;
          },
          refl,
        ))

    indices_are : (indices : List ℕ) → AllByRecursion (λ n. nat_lt n 4294967296 ≡ true) indices × (is_not_empty indices ≡ true) → are_indices indices ≡ true
    indices_are indices h = and_from (is_not_empty indices) _ h.1 (all_pass (λ n. nat_lt n 4294967296) indices h.0)

    extract_read : (own : ℕ) → IsRead (IsLine own) (instruction texts k own op.ExtractValue).read
    extract_read own = giving_read own
        (both_read (typed_value_read m k of) (counted_some_read index_read))
        (λ (a, indices). ExtractValue a indices)
        (λ x h. (record { phrase = indices_are x.1 h.1; operands_good = (h.0, tt); callee_good = tt; types_good = tt; blocks_there = tt }, refl))

    insert_read : (own : ℕ) → IsRead (IsLine own) (instruction texts k own op.InsertValue).read
    insert_read own = giving_read own
        (both_read (typed_value_read m k of) (both_read (typed_value_read m k of) (counted_some_read index_read)))
        (λ (a, (part, indices)). InsertValue a part indices)
        (λ x h. (record { phrase = indices_are x.1.1 h.1.1; operands_good = (h.0, (h.1.0, tt)); callee_good = tt; types_good = tt; blocks_there = tt }, refl))

    -- the result of a call: none where it returns `void`, and else a name
    abbrev IsResult : ℕ → Bool → Option LocalName → Type 0
    IsResult own void_is result = ((is_some result || void_is) ≡ true) × OfSome (IsCalled own) result

    result_read : (own : ℕ) (void_is : Bool) → IsRead (IsResult own void_is) (result_by texts own void_is).read
    result_read own true = mapped_read nothing_read (IsResult own true) (λ u. None) (λ u h. (refl, tt))
    result_read own false = mapped_read (label_read texts holds own) (IsResult own false) (λ name. Some name) (λ name h. (refl, h))

    call_is : (own : ℕ) (x : CallParts)
        → (is_good_type m.structs x.0 ≡ true) × (IsResult own (is_void x.0) x.1.0 × (Any x.1.1.0 × (AllByRecursion (λ t. is_good_type m.structs t ≡ true) x.1.1.1.0
        × ((is_good_type m.structs ptr ≡ true → IsValue m k of ptr x.1.1.1.1.0) × (AllByRecursion (λ t. is_good_type m.structs t ≡ true) x.1.1.1.0 → AllByRecursion (IsOperand m k of) x.1.1.1.1.1)))))
        → IsLine own (call_of x)
    call_is own (t, (result, (variadic, (ts, (callee, arguments))))) h = record {
      operation_good = record {
        phrase = refl;
        operands_good = h.1.1.1.1.1 h.1.1.1.0;
        callee_good = h.1.1.1.1.0 refl;
        types_good = (h.0, h.1.1.1.0);
        blocks_there = tt;
      };
      phrase = h.1.0.0;
      result_called = h.1.0.1;
    }

    call_read : (own : ℕ) → IsRead (IsLine own) (instruction texts k own op.Call).read
    call_read own = mapped_read
        (behind_read return_read (λ t. both_read (result_read own (is_void t)) (both_read truth_read (behind_read (counted_read (ty_read m k of)) (λ ts. both_read (value_read m k of ptr) (arguments_read ts))))))
        (IsLine own) call_of (call_is own)

    -- any instruction
    pub instruction_read : (own : ℕ) (o : Opcode) → is_end o ≡ false → IsRead (IsLine own) (instruction texts k own o).read
    instruction_read own op.Add e = computation_read own op.Add refl
    instruction_read own op.Sub e = computation_read own op.Sub refl
    instruction_read own op.Mul e = computation_read own op.Mul refl
    instruction_read own op.UDiv e = computation_read own op.UDiv refl
    instruction_read own op.SDiv e = computation_read own op.SDiv refl
    instruction_read own op.URem e = computation_read own op.URem refl
    instruction_read own op.SRem e = computation_read own op.SRem refl
    instruction_read own op.Shl e = computation_read own op.Shl refl
    instruction_read own op.LShr e = computation_read own op.LShr refl
    instruction_read own op.AShr e = computation_read own op.AShr refl
    instruction_read own op.And e = computation_read own op.And refl
    instruction_read own op.Or e = computation_read own op.Or refl
    instruction_read own op.Xor e = computation_read own op.Xor refl
    instruction_read own op.ICmp e = compare_read own
    instruction_read own op.Trunc e = conversion_read own op.Trunc refl
    instruction_read own op.ZExt e = conversion_read own op.ZExt refl
    instruction_read own op.SExt e = conversion_read own op.SExt refl
    instruction_read own op.PtrToInt e = conversion_read own op.PtrToInt refl
    instruction_read own op.IntToPtr e = conversion_read own op.IntToPtr refl
    instruction_read own op.Select e = select_read own
    instruction_read own op.Freeze e = freeze_read own
    instruction_read own op.Phi e = phi_read own
    instruction_read own op.Load e = load_read own
    instruction_read own op.Store e = store_read own
    instruction_read own op.Alloca e = alloca_read own
    instruction_read own op.GetElementPtr e = element_read own
    instruction_read own op.Call e = call_read own
    instruction_read own op.ExtractValue e = extract_read own
    instruction_read own op.InsertValue e = insert_read own
    instruction_read own op.Ret e = absurd (cc)
    instruction_read own op.Br e = absurd (cc)
    instruction_read own op.Switch e = absurd (cc)
    instruction_read own op.Unreachable e = absurd (cc)

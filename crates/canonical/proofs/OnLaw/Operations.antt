-- What instructions do is printed.
use Rattle.std.proofs.Common.{◌≡◌, ℕ, ◌+◌, List, [], ◌∷◌, map, true, Option, Some, None, option_map, codes, refl, sym, ap, subst}
use Rattle.ir_lexer.specs.Class.{byte_class}
use Rattle.ir_lexer.specs.declared.token.TokenKind.TheVariants as kind
use Rattle.ir_tables.specs.Opcode.{opcode_code}
use Rattle.ir_tables.specs.Predicate.{predicate_word}
use Rattle.ir_tables.specs.declared.opcode.Opcode.{Opcode}
use Rattle.ir_tables.specs.declared.opcode.Opcode.TheVariants as op
use Rattle.ir_tables.specs.declared.predicate.Predicate.{Predicate}
use Rattle.ir_tables.specs.declared.predicate.Predicate.TheVariants as predicates
use Rattle.ir_terminals.specs.PhraseRows.Row.{among, pair, keep_second, mapped, nothing}
use Rattle.ir_terminals.specs.Role.{terminal}
use Rattle.ir_terminals.specs.Terminal.{predicate_class}
use Rattle.ir_terminals.specs.Tokens.{word, integer_row, predicate_row}
use Rattle.ir_terminals.specs.Values.{predicate_of}
use Rattle.ir_terminals.specs.Words.{word_terminal, words_by_role}
use Rattle.ir_terminals.specs.declared.terminal.Terminal.TheVariants as terminals
use Rattle.ir_terminals.specs.declared.limits.Limits.{Limits}
use Rattle.ir_terminals.specs.declared.values.Integer.{Integer}
use Rattle.ir_phrases.specs.Constants.Tree.{TypedValueTree}
use Rattle.ir_phrases.specs.Constants.Values.{typed_value_row}
use Rattle.ir_phrases.specs.Instructions.Tree.{OperationTree, Binary, Cast}
use Rattle.ir_phrases.specs.Instructions.Tree as tree
use Rattle.ir_phrases.specs.Instructions.Dropped.{comma_shape, commas_shape}
use Rattle.ir_phrases.specs.Instructions.Tails.{count_behind_row, count_core, count_row, alignment_row, alignment_behind_row}
use Rattle.ir_phrases.specs.Instructions.Operations.{tail_shape, cast_type_core, cast_type_row, cast_type_shape, arms_core, arms_row, from_block_core, incoming_core, incoming_row, incoming_shape, operand_list_core, operand_list_row, indices_core, indices_row, operation_shape, binary_core, binary_row, compare_core, compare_row, cast_core, cast_row, select_core, select_row, freeze_core, freeze_row, phi_core, phi_row, load_core, load_row, store_core, store_row, alloca_core, alloca_row, element_address_core, element_address_row, extract_core, extract_row, insert_core, insert_row, operation_core}
use Rattle.ir_phrases.specs.Instructions.Instructions.{marked_call_row, operation_over_core, operation_over, operation_over_shape}
use Rattle.type_table.specs.Tree.{Tree}
use Rattle.module_arena.specs.Module.{Value, Operand, Incoming, Operation, BinaryOperation, Compare, Convert, Select, Freeze, Phi, Load, Store, Alloca, GetElementPtr, Call, ExtractValue, InsertValue}
use Rattle.canonical.specs.Phrase as phrase
use Rattle.canonical.specs.Phrase.{Phrase, none, mark, comma, ◌␣◌, ◌⌢◌, listed, more, with_more}
use Rattle.canonical.specs.Names as names
use Rattle.canonical.specs.Types.{type_phrase}
use Rattle.canonical.specs.Constants.{opcode, flags_phrase, address_flags_phrase, value_phrase, operand}
use Rattle.canonical.specs.Operations.{aligned, counted, incoming_phrase, operation_phrase}
use Rattle.canonical.specs.Items.Unplaced.{unplaced_type, unplaced_operand, unplaced_integer, unplaced_incoming, unplaced_operation}
use Rattle.canonical.specs.Items.Parts.{natural, type_tree, value_tree, operand_tree, incoming_tree, operation_tree}
use Rattle.canonical.proofs.OnLaw.Printed.{IsPrinted, Joins}
use Rattle.module_arena.specs.Forms.{is_not_empty, is_binary, is_cast}
use Rattle.canonical.specs.Law.Written.{IsTypeText, IsLocalText, IsValueText, IsOperandText, AreOperandTexts, IsAlignmentText, IsCountText, AreSmall, AreIncomingTexts, IsFlagSet, operation_opcode, IsOperationText}
use Rattle.canonical.proofs.OnLaw.Joined.{spaced, tight, right_none}
use Rattle.canonical.proofs.OnLaw.Rows.{printed_as, printed_one, printed_labelled, printed_mapped, printed_chain, printed_pair, printed_second, printed_before, printed_left, printed_right, printed_nothing}
use Rattle.canonical.proofs.OnLaw.Lists.{EachPrinted, joins_more}
use Rattle.canonical.proofs.OnLaw.Loops.{printed_listed, no_attachments}
use Rattle.canonical.proofs.OnLaw.Words.{word_token, printed_comma, printed_to, printed_open_bracket, printed_close_bracket}
use Rattle.canonical.proofs.OnLaw.Tokens.{printed_natural, printed_local}
use Rattle.canonical.proofs.OnLaw.Types.{printed_type}
use Rattle.canonical.proofs.OnLaw.Opcodes.{printed_opcode}
use Rattle.canonical.proofs.OnLaw.Flags.{printed_flags, printed_address_flags, has_plain_flags}
use Rattle.canonical.proofs.OnLaw.Constants.{starts_comma}
use Rattle.canonical.proofs.OnLaw.Values.{printed_value, printed_operand, printed_operand_list, printed_indices, next_operand, printed_operands, printed_alignment, printed_alignment_behind, printed_address}
use Rattle.canonical.proofs.OnLaw.Calls.{printed_call}

printed_predicate : (p : Predicate) → IsPrinted predicate_row (λ q. q) p (phrase.word (predicate_word p))
unfolding byte_class terminal word_terminal words_by_role
printed_predicate predicates.Eq = printed_one (predicate_class ∷ []) predicate_of (λ q. q) predicates.Eq kind.Word (predicate_word predicates.Eq) (word_token (predicate_word predicates.Eq) refl) refl (λ place. (predicates.Eq, refl, refl))
printed_predicate predicates.Ne = printed_one (predicate_class ∷ []) predicate_of (λ q. q) predicates.Ne kind.Word (predicate_word predicates.Ne) (word_token (predicate_word predicates.Ne) refl) refl (λ place. (predicates.Ne, refl, refl))
printed_predicate predicates.Ugt = printed_one (predicate_class ∷ []) predicate_of (λ q. q) predicates.Ugt kind.Word (predicate_word predicates.Ugt) (word_token (predicate_word predicates.Ugt) refl) refl (λ place. (predicates.Ugt, refl, refl))
printed_predicate predicates.Uge = printed_one (predicate_class ∷ []) predicate_of (λ q. q) predicates.Uge kind.Word (predicate_word predicates.Uge) (word_token (predicate_word predicates.Uge) refl) refl (λ place. (predicates.Uge, refl, refl))
printed_predicate predicates.Ult = printed_one (predicate_class ∷ []) predicate_of (λ q. q) predicates.Ult kind.Word (predicate_word predicates.Ult) (word_token (predicate_word predicates.Ult) refl) refl (λ place. (predicates.Ult, refl, refl))
printed_predicate predicates.Ule = printed_one (predicate_class ∷ []) predicate_of (λ q. q) predicates.Ule kind.Word (predicate_word predicates.Ule) (word_token (predicate_word predicates.Ule) refl) refl (λ place. (predicates.Ule, refl, refl))
printed_predicate predicates.Sgt = printed_one (predicate_class ∷ []) predicate_of (λ q. q) predicates.Sgt kind.Word (predicate_word predicates.Sgt) (word_token (predicate_word predicates.Sgt) refl) refl (λ place. (predicates.Sgt, refl, refl))
printed_predicate predicates.Sge = printed_one (predicate_class ∷ []) predicate_of (λ q. q) predicates.Sge kind.Word (predicate_word predicates.Sge) (word_token (predicate_word predicates.Sge) refl) refl (λ place. (predicates.Sge, refl, refl))
printed_predicate predicates.Slt = printed_one (predicate_class ∷ []) predicate_of (λ q. q) predicates.Slt kind.Word (predicate_word predicates.Slt) (word_token (predicate_word predicates.Slt) refl) refl (λ place. (predicates.Slt, refl, refl))
printed_predicate predicates.Sle = printed_one (predicate_class ∷ []) predicate_of (λ q. q) predicates.Sle kind.Word (predicate_word predicates.Sle) (word_token (predicate_word predicates.Sle) refl) refl (λ place. (predicates.Sle, refl, refl))

plain_binary : (o : Opcode) → is_binary o ≡ true → has_plain_flags o ≡ true
plain_binary op.Add h = refl
plain_binary op.Sub h = refl
plain_binary op.Mul h = refl
plain_binary op.UDiv h = refl
plain_binary op.SDiv h = refl
plain_binary op.URem h = refl
plain_binary op.SRem h = refl
plain_binary op.Shl h = refl
plain_binary op.LShr h = refl
plain_binary op.AShr h = refl
plain_binary op.And h = refl
plain_binary op.Or h = refl
plain_binary op.Xor h = refl
plain_binary _ h = absurd cc

plain_conversion : (o : Opcode) → is_cast o ≡ true → has_plain_flags o ≡ true
plain_conversion op.Trunc h = refl
plain_conversion op.ZExt h = refl
plain_conversion op.SExt h = refl
plain_conversion op.PtrToInt h = refl
plain_conversion op.IntToPtr h = refl
plain_conversion _ h = absurd cc

module _ (limits : Limits) where
  binary : (o : Opcode) (set : ℕ) (left : Operand) (right : Value) → is_binary o ≡ true → IsFlagSet o set → IsOperandText limits.nesting left → IsValueText limits.nesting left.ty right → IsPrinted (binary_row o limits) unplaced_operation (Binary o set (operand_tree left) (value_tree left.ty right)) (flags_phrase set ␣ operand left ⌢ comma ␣ value_phrase left.ty right)
  unfolding binary_core
  binary o set left right is f h k =
      printed_labelled operation_shape (printed_mapped (λ v. Binary o v.0 v.1.0 v.1.1) unplaced_operation (λ v. Binary o v.0 v.1.0 v.1.1) (λ v. refl)
      (printed_pair spaced (printed_flags o set (plain_binary o is) f) (printed_operands limits left left.ty right h k)))

  compare : (set : ℕ) (p : Predicate) (left : Operand) (right : Value) → IsFlagSet op.ICmp set → IsOperandText limits.nesting left → IsValueText limits.nesting left.ty right → IsPrinted (compare_row limits) unplaced_operation (tree.Compare set p (operand_tree left) (value_tree left.ty right)) (flags_phrase set ␣ phrase.word (predicate_word p) ␣ operand left ⌢ comma ␣ value_phrase left.ty right)
  unfolding compare_core
  compare set p left right f h k =
      printed_labelled operation_shape (printed_mapped (λ v. tree.Compare v.0 v.1.0 v.1.1.0 v.1.1.1) unplaced_operation (λ v. tree.Compare v.0 v.1.0 v.1.1.0 v.1.1.1) (λ v. refl)
      (printed_pair spaced (printed_flags op.ICmp set refl f) (printed_pair spaced (printed_predicate p) (printed_operands limits left left.ty right h k))))

  cast_type : (t : Tree) → IsTypeText t limits.nesting → IsPrinted (cast_type_row limits) unplaced_type (type_tree t) (phrase.word (codes "to") ␣ type_phrase t)
  unfolding cast_type_core
  cast_type t h = printed_labelled cast_type_shape (printed_second spaced printed_to (printed_before right_none (printed_type limits t limits.nesting h) no_attachments))

  conversion : (o : Opcode) (set : ℕ) (value : Operand) (t : Tree) → is_cast o ≡ true → IsFlagSet o set → IsOperandText limits.nesting value → IsTypeText t limits.nesting → IsPrinted (cast_row o limits) unplaced_operation (Cast o set (operand_tree value) (type_tree t)) (flags_phrase set ␣ operand value ␣ phrase.word (codes "to") ␣ type_phrase t)
  unfolding cast_core
  conversion o set value t is f h k =
      printed_labelled operation_shape (printed_mapped (λ v. Cast o v.0 v.1.0 v.1.1) unplaced_operation (λ v. Cast o v.0 v.1.0 v.1.1) (λ v. refl)
      (printed_pair spaced (printed_flags o set (plain_conversion o is) f) (printed_pair spaced (printed_operand limits value h) (cast_type t k))))

  arms : (first other : Operand) → IsOperandText limits.nesting first → IsOperandText limits.nesting other → IsPrinted {X = TypedValueTree × TypedValueTree} (arms_row limits) (λ w. (unplaced_operand w.0, unplaced_operand w.1)) (operand_tree first, operand_tree other) (comma ␣ operand first ⌢ comma ␣ operand other)
  unfolding arms_core
  arms first other h k = printed_labelled tail_shape (printed_pair (tight (starts_comma (operand other))) (next_operand limits first h) (printed_before right_none (next_operand limits other k) no_attachments))

  choice : (condition first other : Operand) → IsOperandText limits.nesting condition → IsOperandText limits.nesting first → IsOperandText limits.nesting other → IsPrinted (select_row limits) unplaced_operation (tree.Select (operand_tree condition) (operand_tree first) (operand_tree other)) (operand condition ⌢ comma ␣ operand first ⌢ comma ␣ operand other)
  unfolding select_core
  choice condition first other g h k =
      printed_labelled operation_shape (printed_mapped (λ v. tree.Select v.0 v.1.0 v.1.1) unplaced_operation (λ v. tree.Select v.0 v.1.0 v.1.1) (λ v. refl)
      (printed_pair (tight (starts_comma (operand first ⌢ comma ␣ operand other))) (printed_operand limits condition g) (arms first other h k)))

  frozen : (value : Operand) → IsOperandText limits.nesting value → IsPrinted (freeze_row limits) unplaced_operation (tree.Freeze (operand_tree value)) (operand value)
  unfolding freeze_core
  frozen value h = printed_labelled operation_shape (printed_mapped tree.Freeze unplaced_operation tree.Freeze (λ v. refl) (printed_before right_none (printed_operand limits value h) no_attachments))

  incoming : (ty : Tree) (i : Incoming) → IsValueText limits.nesting ty i.value → IsLocalText i.block → IsPrinted (incoming_row limits) unplaced_incoming (incoming_tree ty i) (incoming_phrase ty i)
  unfolding incoming_core from_block_core
  incoming ty i h k =
      printed_labelled incoming_shape (printed_second spaced printed_open_bracket
      (printed_pair (tight (starts_comma (names.local i.block ␣ mark (codes "]")))) (printed_value limits ty i.value h)
      (printed_labelled comma_shape (printed_second spaced printed_comma (printed_before spaced (printed_local i.block k) printed_close_bracket)))))

  incoming_list : (ty : Tree) (is : List Incoming) → AreIncomingTexts limits.nesting ty is → EachPrinted (incoming_row limits) unplaced_incoming (map (incoming_tree ty) is) (map (incoming_phrase ty) is)
  incoming_list ty [] h = tt
  incoming_list ty (i ∷ is) h = (incoming ty i h.0 h.1, incoming_list ty is h.2)

  phi : (ty : Tree) (is : List Incoming) → IsTypeText ty limits.nesting → is_not_empty is ≡ true → AreIncomingTexts limits.nesting ty is → IsPrinted (phi_row limits) unplaced_operation (tree.Phi (type_tree ty) (map (incoming_tree ty) is)) (type_phrase ty ␣ listed (map (incoming_phrase ty) is))
  unfolding phi_core
  phi ty [] t some h = absurd cc
  phi ty (i ∷ is) t some h =
      printed_labelled operation_shape (printed_mapped (λ v. tree.Phi v.0 v.1) unplaced_operation (λ v. tree.Phi v.0 v.1) (λ v. refl)
      (printed_pair spaced (printed_type limits ty limits.nesting t)
      (printed_chain commas_shape (joins_more (incoming_phrase ty i) (map (incoming_phrase ty) is)) (incoming ty i h.0 h.1)
      (λ j same. printed_as (ap (λ k. k ∷ map (incoming_tree ty) is) same) (printed_listed (incoming_row limits) unplaced_incoming (j ∷ []) (map (incoming_tree ty) is) (map (incoming_phrase ty) is) (incoming_list ty is h.2))))))

  load : (set : ℕ) (ty : Tree) (address : Operand) (n : Option ℕ) → IsFlagSet op.Load set → IsTypeText ty limits.nesting → IsOperandText limits.nesting address → IsAlignmentText n → IsPrinted (load_row limits) unplaced_operation (tree.Load set (type_tree ty) (operand_tree address) (option_map natural n)) (flags_phrase set ␣ type_phrase ty ⌢ comma ␣ aligned (operand address) n)
  unfolding load_core
  load set ty address n f t h k =
      printed_labelled operation_shape (printed_mapped (λ v. tree.Load v.0 v.1.0 v.1.1.0 v.1.1.1) unplaced_operation (λ v. tree.Load v.0 v.1.0 v.1.1.0 v.1.1.1) (λ v. refl)
      (printed_pair spaced (printed_flags op.Load set refl f) (printed_pair (tight (starts_comma (aligned (operand address) n))) (printed_type limits ty limits.nesting t) (printed_address limits address n h k))))

  store : (set : ℕ) (value address : Operand) (n : Option ℕ) → IsFlagSet op.Store set → IsOperandText limits.nesting value → IsOperandText limits.nesting address → IsAlignmentText n → IsPrinted (store_row limits) unplaced_operation (tree.Store set (operand_tree value) (operand_tree address) (option_map natural n)) (flags_phrase set ␣ operand value ⌢ comma ␣ aligned (operand address) n)
  unfolding store_core
  store set value address n f t h k =
      printed_labelled operation_shape (printed_mapped (λ v. tree.Store v.0 v.1.0 v.1.1.0 v.1.1.1) unplaced_operation (λ v. tree.Store v.0 v.1.0 v.1.1.0 v.1.1.1) (λ v. refl)
      (printed_pair spaced (printed_flags op.Store set refl f) (printed_pair (tight (starts_comma (aligned (operand address) n))) (printed_operand limits value t) (printed_address limits address n h k))))

  operand_list : (base : Operand) (os : List Operand) → IsOperandText limits.nesting base → AreOperandTexts limits.nesting os → IsPrinted (operand_list_row limits) (map unplaced_operand) (operand_tree base ∷ map operand_tree os) (comma ␣ with_more (operand base) (map operand os))
  unfolding operand_list_core
  operand_list base os h k =
      printed_labelled tail_shape (printed_chain commas_shape (joins_more (comma ␣ operand base) (map operand os)) (next_operand limits base h)
      (λ t same. printed_as (ap (λ u. u ∷ map operand_tree os) same) (printed_listed (typed_value_row limits) unplaced_operand (t ∷ []) (map operand_tree os) (map operand os) (printed_operand_list limits os k))))

  element_address : (set : ℕ) (source : Tree) (base : Operand) (os : List Operand) → IsFlagSet op.GetElementPtr set → IsTypeText source limits.nesting → IsOperandText limits.nesting base → AreOperandTexts limits.nesting os → IsPrinted (element_address_row limits) unplaced_operation (tree.GetElementPtr set (type_tree source) (operand_tree base ∷ map operand_tree os)) (address_flags_phrase set ␣ type_phrase source ⌢ comma ␣ with_more (operand base) (map operand os))
  unfolding element_address_core
  element_address set source base os f t h k =
      printed_labelled operation_shape (printed_mapped (λ v. tree.GetElementPtr v.0 v.1.0 v.1.1) unplaced_operation (λ v. tree.GetElementPtr v.0 v.1.0 v.1.1) (λ v. refl)
      (printed_pair spaced (printed_address_flags set f) (printed_pair (tight (starts_comma (with_more (operand base) (map operand os)))) (printed_type limits source limits.nesting t) (operand_list base os h k))))

  indices : (n : ℕ) (ns : List ℕ) → AreSmall (n ∷ ns) → IsPrinted indices_row (map unplaced_integer) (natural n ∷ map natural ns) (more (names.natural n ∷ map names.natural ns))
  unfolding indices_core
  indices n ns h =
      printed_labelled tail_shape (printed_second spaced printed_comma (printed_chain commas_shape (joins_more (names.natural n) (map names.natural ns)) (printed_natural n h.0)
      (λ i same. printed_as (ap (λ j. j ∷ map natural ns) same) (printed_listed integer_row unplaced_integer (i ∷ []) (map natural ns) (map names.natural ns) (printed_indices ns h.1)))))

  extract : (aggregate : Operand) (ns : List ℕ) → IsOperandText limits.nesting aggregate → is_not_empty ns ≡ true → AreSmall ns → IsPrinted (extract_row limits) unplaced_operation (tree.ExtractValue (operand_tree aggregate) (map natural ns)) (with_more (operand aggregate) (map names.natural ns))
  unfolding extract_core
  extract aggregate [] h some k = absurd cc
  extract aggregate (n ∷ ns) h some k =
      printed_labelled operation_shape (printed_mapped (λ v. tree.ExtractValue v.0 v.1) unplaced_operation (λ v. tree.ExtractValue v.0 v.1) (λ v. refl)
      (printed_pair (joins_more (operand aggregate) (names.natural n ∷ map names.natural ns)) (printed_operand limits aggregate h) (indices n ns k)))

  insert : (aggregate part : Operand) (ns : List ℕ) → IsOperandText limits.nesting aggregate → IsOperandText limits.nesting part → is_not_empty ns ≡ true → AreSmall ns → IsPrinted (insert_row limits) unplaced_operation (tree.InsertValue (operand_tree aggregate) (operand_tree part) (map natural ns)) (operand aggregate ⌢ comma ␣ with_more (operand part) (map names.natural ns))
  unfolding insert_core
  insert aggregate part [] h g some k = absurd cc
  insert aggregate part (n ∷ ns) h g some k =
      printed_labelled operation_shape (printed_mapped (λ v. tree.InsertValue v.0 v.1.0 v.1.1) unplaced_operation (λ v. tree.InsertValue v.0 v.1.0 v.1.1) (λ v. refl)
      (printed_pair (tight (starts_comma (with_more (operand part) (names.natural n ∷ map names.natural ns)))) (printed_operand limits aggregate h)
      (printed_pair (joins_more (comma ␣ operand part) (names.natural n ∷ map names.natural ns)) (next_operand limits part g) (indices n ns k))))

  -- what goes on with a count or an alignment, or does not
  count : (c : Option Operand) (n : Option ℕ) → IsCountText limits.nesting c → IsAlignmentText n → (p : Phrase) → (behind : Phrase) × Joins p behind (counted p c n) × IsPrinted {X = Option TypedValueTree × Option Integer} (count_row limits) (λ w. (option_map unplaced_operand w.0, option_map unplaced_integer w.1)) (option_map operand_tree c, option_map natural n) behind
  unfolding count_core
  count None None h k p =
      (none, right_none, printed_labelled commas_shape (printed_right (keep_second (word terminals.Comma) (count_behind_row limits)) (printed_nothing (λ w. (option_map unplaced_operand w.0, option_map unplaced_integer w.1)) (None, None))))
  count None (Some n) h k p = (
    comma ␣ phrase.word (codes "align") ␣ names.natural n,
    tight (starts_comma (phrase.word (codes "align") ␣ names.natural n)),
    printed_labelled commas_shape (printed_left (nothing (None, None)) (printed_second spaced printed_comma
        (printed_right (pair (mapped Some (typed_value_row limits)) alignment_row)
        (printed_mapped (λ a. (None, a)) (λ w. (option_map unplaced_operand w.0, option_map unplaced_integer w.1)) (λ y. (None, y)) (λ a. refl) (printed_alignment_behind n k))))),
  )
  count (Some o) n h k p =
      let w = printed_alignment n k (operand o) in (
        comma ␣ aligned (operand o) n,
        tight (starts_comma (aligned (operand o) n)),
        printed_labelled commas_shape (printed_left (nothing (None, None)) (printed_second spaced printed_comma
            (printed_left (mapped (λ a. (None, a)) alignment_behind_row)
            (printed_pair w.1 (printed_mapped Some (option_map unplaced_operand) Some (λ a. refl) (printed_operand limits o h)) w.2)))),
      )

  alloca : (ty : Tree) (c : Option Operand) (n : Option ℕ) → IsTypeText ty limits.nesting → IsCountText limits.nesting c → IsAlignmentText n → IsPrinted (alloca_row limits) unplaced_operation (tree.Alloca (type_tree ty) (option_map operand_tree c) (option_map natural n)) (counted (type_phrase ty) c n)
  unfolding alloca_core
  alloca ty c n t h k =
      let w = count c n h k (type_phrase ty) in
      printed_labelled operation_shape (printed_mapped (λ v. tree.Alloca v.0 v.1.0 v.1.1) unplaced_operation (λ v. tree.Alloca v.0 v.1.0 v.1.1) (λ v. refl)
      (printed_pair w.1 (printed_type limits ty limits.nesting t) w.2))

  -- the row that stands behind an opcode
  core_of_binary : (o : Opcode) {x : OperationTree} {p : Phrase} → is_binary o ≡ true → IsPrinted (binary_row o limits) unplaced_operation x p → IsPrinted (operation_core limits o) unplaced_operation x p
  unfolding operation_core
  core_of_binary op.Add is h = h
  core_of_binary op.Sub is h = h
  core_of_binary op.Mul is h = h
  core_of_binary op.UDiv is h = h
  core_of_binary op.SDiv is h = h
  core_of_binary op.URem is h = h
  core_of_binary op.SRem is h = h
  core_of_binary op.Shl is h = h
  core_of_binary op.LShr is h = h
  core_of_binary op.AShr is h = h
  core_of_binary op.And is h = h
  core_of_binary op.Or is h = h
  core_of_binary op.Xor is h = h
  core_of_binary _ is h = absurd cc

  core_of_conversion : (o : Opcode) {x : OperationTree} {p : Phrase} → is_cast o ≡ true → IsPrinted (cast_row o limits) unplaced_operation x p → IsPrinted (operation_core limits o) unplaced_operation x p
  unfolding operation_core
  core_of_conversion op.Trunc is h = h
  core_of_conversion op.ZExt is h = h
  core_of_conversion op.SExt is h = h
  core_of_conversion op.PtrToInt is h = h
  core_of_conversion op.IntToPtr is h = h
  core_of_conversion _ is h = absurd cc

  -- an opcode among these, and what stands behind it
  over : (classes : List ℕ) (o : Opcode) {x : OperationTree} {p : Phrase} → among (100 + opcode_code o) classes ≡ true → IsPrinted (operation_core limits o) unplaced_operation x p → IsPrinted (operation_over classes limits) unplaced_operation x (opcode o ␣ p)
  unfolding operation_over_core
  over classes o {x} {p} c h =
      printed_labelled (operation_over_shape classes) (printed_right (marked_call_row limits)
      (printed_chain operation_shape spaced (printed_opcode classes o c)
      (λ a same. printed_labelled operation_shape (subst (λ code. IsPrinted (operation_core limits code) unplaced_operation x p) (sym same) h))))

  -- what an instruction does, where its opcode is among these
  pub printed_operation : (classes : List ℕ) (o : Operation) → among (100 + opcode_code (operation_opcode o)) classes ≡ true → IsOperationText limits.nesting o → IsPrinted (operation_over classes limits) unplaced_operation (operation_tree o) (operation_phrase o)
  unfolding operation_core
  printed_operation classes (BinaryOperation o set left right) c h = over classes o c (core_of_binary o h.0 (binary o set left right h.0 h.1 h.2 h.3))
  printed_operation classes (Compare set p left right) c h = over classes op.ICmp c (compare set p left right h.0 h.1 h.2)
  printed_operation classes (Convert o set value t) c h = over classes o c (core_of_conversion o h.0 (conversion o set value t h.0 h.1 h.2 h.3))
  printed_operation classes (Select condition first other) c h = over classes op.Select c (choice condition first other h.0 h.1 h.2)
  printed_operation classes (Freeze value) c h = over classes op.Freeze c (frozen value h)
  printed_operation classes (Phi ty is) c h = over classes op.Phi c (phi ty is h.0 h.1 h.2)
  printed_operation classes (Load set ty address n) c h = over classes op.Load c (load set ty address n h.0 h.1 h.2 h.3)
  printed_operation classes (Store set value address n) c h = over classes op.Store c (store set value address n h.0 h.1 h.2 h.3)
  printed_operation classes (Alloca ty count n) c h = over classes op.Alloca c (alloca ty count n h.0 h.1 h.2)
  printed_operation classes (GetElementPtr set source base os) c h = over classes op.GetElementPtr c (element_address set source base os h.0 h.1 h.2 h.3)
  printed_operation classes (Call s v os) c h = over classes op.Call c (printed_labelled operation_shape (printed_call limits s v os h.0 h.1 h.2 h.3))
  printed_operation classes (ExtractValue aggregate ns) c h = over classes op.ExtractValue c (extract aggregate ns h.0 h.1 h.2)
  printed_operation classes (InsertValue aggregate part ns) c h = over classes op.InsertValue c (insert aggregate part ns h.0 h.1 h.2 h.3)

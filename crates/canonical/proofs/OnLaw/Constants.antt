-- Constants are printed.
use Rattle.std.proofs.Common.{◌≡◌, ℕ, suc, ◌+◌, ◌-◌, ◌^◌, ◌<◌, ◌==◌, List, [], ◌∷◌, map, Bool, true, false, codes, refl, sym, ap, subst, append_assoc}
use Rattle.ir_base.specs.declared.place.Place.{Place}
use Rattle.ir_lexer.specs.Ahead.{Located}
use Rattle.ir_lexer.specs.Class.{byte_class}
use Rattle.ir_lexer.specs.declared.token.TokenKind.TheVariants as kind
use Rattle.ir_tables.specs.Opcode.{opcode_code}
use Rattle.ir_tables.specs.declared.opcode.Opcode.{Opcode}
use Rattle.ir_tables.specs.declared.opcode.Opcode.TheVariants as op
use Rattle.ir_terminals.specs.PhraseRows.Row.{Row, among, keep_second, alt}
use Rattle.ir_terminals.specs.Role.{class, terminal}
use Rattle.ir_terminals.specs.Tokens.{word}
use Rattle.ir_terminals.specs.Words.{word_terminal, words_by_role}
use Rattle.ir_terminals.specs.declared.terminal.Terminal.TheVariants as terminals
use Rattle.ir_terminals.specs.declared.limits.Limits.{Limits}
use Rattle.ir_phrases.specs.Constants.Placed.{placed_by}
use Rattle.ir_phrases.specs.declared.constants.constant.Simple.{Simple}
use Rattle.ir_phrases.specs.declared.constants.constant.Simple.TheVariants as simple
use Rattle.ir_phrases.specs.declared.constants.constant.Brackets.TheVariants as brackets
use Rattle.ir_phrases.specs.Constants.Tree.{TypeTree, ConstantTree, ConstantTrees, IntegerConstant, SimpleConstant, AddressConstant, BytesConstant, ListConstant, Conversion, Arithmetic, TypedConstantTree, constants}
use Rattle.ir_phrases.specs.Constants.Tree as tree
use Rattle.ir_phrases.specs.Constants.Types.{type_shape, list_shape, type_row}
use Rattle.ir_phrases.specs.Constants.Flags.{flags_row}
use Rattle.ir_phrases.specs.Constants.Constants.{simple_classes, simple_word, simple_row, integer_constant_row, address_row, bytes_row, typed_core, typed_at, elements_core, elements_row, array_constant_row, struct_constant_row, packed_constant_row, operands_core, operands_shape, operands_row, element_address_row, conversion_row, arithmetic_row, expression_classes, expression_shape, expression_by, expression_core, expression_row, holder_shape, holder_step, constant_shape, constant_core, constant_over, holder_core, holder_row, constant_at}
use Rattle.type_table.specs.Tree.{Tree, int, ptr, void, array, struct, named}
use Rattle.module_arena.specs.Module.{Brackets, Square, Braces, Packed, Constant, Integer, Truth, Null, Undef, Poison, ZeroInitializer, Address, ByteString, Aggregate, ElementAddress, Cast, Binary, Constants, no_constants, more_constants}
use Rattle.canonical.specs.Phrase as phrase
use Rattle.canonical.specs.Phrase.{Phrase, mark, comma, ◌␣◌, ◌⌢◌, listed, with_more, in_parentheses}
use Rattle.canonical.specs.Names as names
use Rattle.canonical.specs.Types.{type_phrase}
use Rattle.canonical.specs.Constants.{opcode, flags_phrase, address_flags_phrase, truth, integer_phrase, in_brackets, constant_phrase, constant_phrases}
use Rattle.canonical.specs.Items.Unplaced.{nowhere, unplaced_type, unplaced_constant, unplaced_constants, unplaced_typed}
use Rattle.canonical.specs.Items.Parts.{signed, type_tree, truth_tree, integer_tree, constant_tree, constant_trees}
use Rattle.canonical.proofs.OnLaw.Printed.{IsPrinted, Starts, no_place}
use Rattle.module_arena.specs.Forms.{is_constant_cast, is_constant_binary, has_constants}
use Rattle.canonical.specs.Law.Written.{IsTypeText, IsFlagSet, IsNumberText, IsConstantText, AreConstantTexts}
use Rattle.canonical.proofs.OnLaw.Joined.{spaced, tight}
use Rattle.canonical.proofs.OnLaw.Rows.{printed_as, printed_like, printed_one, printed_labelled, printed_mapped, printed_chain, printed_both, printed_pair, printed_second, printed_before, printed_left, printed_right}
use Rattle.canonical.proofs.OnLaw.Words.{word_token, printed_to, printed_comma, printed_open_bracket, printed_close_bracket, printed_close_brace, printed_less, printed_open_parenthesis, printed_close_parenthesis}
use Rattle.canonical.proofs.OnLaw.Lists.{EachPrinted, printed_separated, printed_more, joins_more}
use Rattle.canonical.proofs.OnLaw.Tokens.{printed_signed, printed_global}
use Rattle.canonical.proofs.OnLaw.Labels.{printed_byte_string}
use Rattle.canonical.proofs.OnLaw.Opcodes.{printed_placed_opcode}
use Rattle.canonical.proofs.OnLaw.Flags.{printed_flags, printed_address_flags}
use Rattle.canonical.proofs.OnLaw.Types.{opened_bracket, opened_less, opened_parenthesis, starts_close_bracket, printed_braced, printed_braced_second, packed_end, inside_bracket, printed_type}

pub starts_comma : (p : Phrase) → Starts (comma ␣ p)
unfolding byte_class
starts_comma p = record { starts = λ b rest. refl }

pub starts_comma_mark : Starts comma
unfolding byte_class
starts_comma_mark = record { starts = λ b rest. refl }

pub starts_close_parenthesis : Starts (mark (codes ")"))
unfolding byte_class
starts_close_parenthesis = record { starts = λ b rest. refl }

abbrev simple_spelling : Simple → List ℕ
simple_spelling simple.True = codes "true"
simple_spelling simple.False = codes "false"
simple_spelling simple.Null = codes "null"
simple_spelling simple.Undef = codes "undef"
simple_spelling simple.Poison = codes "poison"
simple_spelling simple.ZeroInitializer = codes "zeroinitializer"

printed_simple : (s : Simple) → IsPrinted simple_row unplaced_constant (SimpleConstant s nowhere) (phrase.word (simple_spelling s))
unfolding byte_class terminal word_terminal words_by_role
printed_simple simple.True =
    printed_mapped (λ v. SimpleConstant v.0 v.1) unplaced_constant (λ v. SimpleConstant v.0 v.1) (λ v. refl)
    (printed_one {X = Simple × Place} simple_classes (placed_by simple_word) (λ v. (v.0, no_place v.1)) (simple.True, nowhere) kind.Word (codes "true") (word_token (codes "true") refl) refl (λ place. ((simple.True, place), refl, refl)))
printed_simple simple.False =
    printed_mapped (λ v. SimpleConstant v.0 v.1) unplaced_constant (λ v. SimpleConstant v.0 v.1) (λ v. refl)
    (printed_one {X = Simple × Place} simple_classes (placed_by simple_word) (λ v. (v.0, no_place v.1)) (simple.False, nowhere) kind.Word (codes "false") (word_token (codes "false") refl) refl (λ place. ((simple.False, place), refl, refl)))
printed_simple simple.Null =
    printed_mapped (λ v. SimpleConstant v.0 v.1) unplaced_constant (λ v. SimpleConstant v.0 v.1) (λ v. refl)
    (printed_one {X = Simple × Place} simple_classes (placed_by simple_word) (λ v. (v.0, no_place v.1)) (simple.Null, nowhere) kind.Word (codes "null") (word_token (codes "null") refl) refl (λ place. ((simple.Null, place), refl, refl)))
printed_simple simple.Undef =
    printed_mapped (λ v. SimpleConstant v.0 v.1) unplaced_constant (λ v. SimpleConstant v.0 v.1) (λ v. refl)
    (printed_one {X = Simple × Place} simple_classes (placed_by simple_word) (λ v. (v.0, no_place v.1)) (simple.Undef, nowhere) kind.Word (codes "undef") (word_token (codes "undef") refl) refl (λ place. ((simple.Undef, place), refl, refl)))
printed_simple simple.Poison =
    printed_mapped (λ v. SimpleConstant v.0 v.1) unplaced_constant (λ v. SimpleConstant v.0 v.1) (λ v. refl)
    (printed_one {X = Simple × Place} simple_classes (placed_by simple_word) (λ v. (v.0, no_place v.1)) (simple.Poison, nowhere) kind.Word (codes "poison") (word_token (codes "poison") refl) refl (λ place. ((simple.Poison, place), refl, refl)))
printed_simple simple.ZeroInitializer =
    printed_mapped (λ v. SimpleConstant v.0 v.1) unplaced_constant (λ v. SimpleConstant v.0 v.1) (λ v. refl)
    (printed_one {X = Simple × Place} simple_classes (placed_by simple_word) (λ v. (v.0, no_place v.1)) (simple.ZeroInitializer, nowhere) kind.Word (codes "zeroinitializer") (word_token (codes "zeroinitializer") refl) refl (λ place. ((simple.ZeroInitializer, place), refl, refl)))

module _ (holder : Row Located ConstantTree) {x : ConstantTree} {p : Phrase} where
  integer_constant : IsPrinted integer_constant_row unplaced_constant x p → IsPrinted (constant_over holder) unplaced_constant x p
  unfolding constant_core
  integer_constant h = printed_labelled constant_shape (printed_left (alt class address_row (alt class bytes_row (alt class simple_row holder))) h)

  address_constant : IsPrinted address_row unplaced_constant x p → IsPrinted (constant_over holder) unplaced_constant x p
  unfolding constant_core
  address_constant h = printed_labelled constant_shape (printed_right integer_constant_row (printed_left (alt class bytes_row (alt class simple_row holder)) h))

  bytes_constant : IsPrinted bytes_row unplaced_constant x p → IsPrinted (constant_over holder) unplaced_constant x p
  unfolding constant_core
  bytes_constant h = printed_labelled constant_shape (printed_right integer_constant_row (printed_right address_row (printed_left (alt class simple_row holder) h)))

  simple_constant : IsPrinted simple_row unplaced_constant x p → IsPrinted (constant_over holder) unplaced_constant x p
  unfolding constant_core
  simple_constant h = printed_labelled constant_shape (printed_right integer_constant_row (printed_right address_row (printed_right bytes_row (printed_left holder h))))

  holder_constant : IsPrinted holder unplaced_constant x p → IsPrinted (constant_over holder) unplaced_constant x p
  unfolding constant_core
  holder_constant h = printed_labelled constant_shape (printed_right integer_constant_row (printed_right address_row (printed_right bytes_row (printed_right simple_row h))))

truth_constant : (holder : Row Located ConstantTree) (b : Bool) → IsPrinted (constant_over holder) unplaced_constant (truth_tree b) (truth b)
truth_constant holder true = simple_constant holder (printed_simple simple.True)
truth_constant holder false = simple_constant holder (printed_simple simple.False)

number_constant : (holder : Row Located ConstantTree) (width n : ℕ) → n < 10 ^ 64 → 2 ^ width - n < 10 ^ 64 → IsPrinted (constant_over holder) unplaced_constant (IntegerConstant (signed width n)) (phrase.number (names.signed_spelling width n))
number_constant holder width n h k = integer_constant holder (printed_mapped IntegerConstant unplaced_constant IntegerConstant (λ v. refl) (printed_signed width n h k))

at_width : (holder : Row Located ConstantTree) (width n : ℕ) (b : Bool) → (width == 1) ≡ b → IsNumberText (int width) n → IsPrinted (constant_over holder) unplaced_constant (integer_tree (int width) n) (integer_phrase (int width) n)
at_width holder width n true e h = rw e (truth_constant holder (n == 1))
at_width holder width n false e h = rw e (number_constant holder width n h.0 h.1)

printed_integer : (holder : Row Located ConstantTree) (ty : Tree) (n : ℕ) → IsNumberText ty n → IsPrinted (constant_over holder) unplaced_constant (integer_tree ty n) (integer_phrase ty n)
printed_integer holder (int width) n h = at_width holder width n (width == 1) refl h
printed_integer holder ptr n h = number_constant holder 128 n h.0 h.1
printed_integer holder void n h = number_constant holder 128 n h.0 h.1
printed_integer holder (array count t) n h = number_constant holder 128 n h.0 h.1
printed_integer holder (struct packed ts) n h = number_constant holder 128 n h.0 h.1
printed_integer holder (named name) n h = number_constant holder 128 n h.0 h.1

unplaced_list : (cs : List TypedConstantTree) → unplaced_constants (constants cs) ≡ constants (map unplaced_typed cs)
unplaced_list [] = refl
unplaced_list (c ∷ cs) = ap (λ (ds : ConstantTrees). tree.more_constants (unplaced_type c.0) (unplaced_constant c.1) ds) (unplaced_list cs)

-- constants, each behind its type, as a list
abbrev constant_list : Constants → List TypedConstantTree
constant_list no_constants = []
constant_list (more_constants ty c cs) = (type_tree ty, constant_tree ty c) ∷ constant_list cs

constants_of_list : (cs : Constants) → constants (constant_list cs) ≡ constant_trees cs
constants_of_list no_constants = refl
constants_of_list (more_constants ty c cs) = ap (λ (ds : ConstantTrees). tree.more_constants (type_tree ty) (constant_tree ty c) ds) (constants_of_list cs)

module _ (limits : Limits) (typed : Row Located TypedConstantTree) where
  printed_elements : (xs : List TypedConstantTree) (ps : List Phrase) → EachPrinted typed unplaced_typed xs ps → IsPrinted (elements_row typed) (map unplaced_typed) xs (listed ps)
  unfolding elements_core
  printed_elements xs ps h = printed_labelled list_shape (printed_separated typed unplaced_typed xs ps h)

  array_constant : (xs : List TypedConstantTree) (ps : List Phrase) → EachPrinted typed unplaced_typed xs ps → IsPrinted (array_constant_row typed) unplaced_constant (ListConstant nowhere brackets.Square (constants xs)) (in_brackets Square ps)
  array_constant xs ps h =
      printed_mapped (λ v. ListConstant v.0 brackets.Square (constants v.1)) unplaced_constant (λ v. ListConstant v.0 brackets.Square (constants v.1)) (λ v. ap (λ cs. ListConstant nowhere brackets.Square cs) (unplaced_list v.1))
      (printed_pair opened_bracket printed_open_bracket (printed_before (tight starts_close_bracket) (printed_elements xs ps h) printed_close_bracket))

  struct_constant : (xs : List TypedConstantTree) (ps : List Phrase) → EachPrinted typed unplaced_typed xs ps → IsPrinted (struct_constant_row typed) unplaced_constant (ListConstant nowhere brackets.Braces (constants xs)) (in_brackets Braces ps)
  struct_constant xs ps h =
      printed_mapped (λ v. ListConstant v.0 brackets.Braces (constants v.1)) unplaced_constant (λ v. ListConstant v.0 brackets.Braces (constants v.1)) (λ v. ap (λ cs. ListConstant nowhere brackets.Braces cs) (unplaced_list v.1))
      (printed_braced (elements_row typed) (map unplaced_typed) xs ps (word terminals.CloseBrace) (mark (codes "}")) (printed_elements xs ps h) printed_close_brace)

  packed_constant : (xs : List TypedConstantTree) (ps : List Phrase) → EachPrinted typed unplaced_typed xs ps → IsPrinted (packed_constant_row typed) unplaced_constant (ListConstant nowhere brackets.Packed (constants xs)) (in_brackets Packed ps)
  packed_constant xs ps h =
      printed_mapped (λ v. ListConstant v.0 brackets.Packed (constants v.1)) unplaced_constant (λ v. ListConstant v.0 brackets.Packed (constants v.1)) (λ v. ap (λ cs. ListConstant nowhere brackets.Packed cs) (unplaced_list v.1))
      (printed_pair opened_less printed_less (printed_braced_second (elements_row typed) (map unplaced_typed) xs ps (keep_second (word terminals.CloseBrace) (word terminals.Greater)) (mark (codes "}") ⌢ mark (codes ">")) (printed_elements xs ps h) packed_end))

  printed_operands : (x : TypedConstantTree) (xs : List TypedConstantTree) (p : Phrase) (ps : List Phrase) → IsPrinted typed unplaced_typed x p → EachPrinted typed unplaced_typed xs ps → IsPrinted (operands_row typed) (map unplaced_typed) (x ∷ xs) (with_more p ps)
  unfolding operands_core
  printed_operands x xs p ps h k =
      printed_labelled operands_shape (printed_both (λ c cs. c ∷ cs) (map unplaced_typed) (λ c cs. c ∷ cs) (λ a b. refl) (joins_more p ps) h (printed_more typed unplaced_typed xs ps k))

  expression : (o : Opcode) {x : ConstantTree} {p : Phrase} → among (100 + opcode_code o) expression_classes ≡ true → ((place : Place) → IsPrinted (expression_by limits typed place o) unplaced_constant x p) → IsPrinted (expression_row limits typed) unplaced_constant x (opcode o ␣ p)
  unfolding expression_core
  expression o {x} {p} c h =
      printed_chain expression_shape spaced (printed_placed_opcode expression_classes o c)
      (λ v is. printed_labelled expression_shape (subst (λ code. IsPrinted (expression_by limits typed v.1 code) unplaced_constant x p) (sym (ap (λ (w : Opcode × Place). w.0) is)) (h v.1)))

  element_address : (set : ℕ) (source : TypeTree) (x : TypedConstantTree) (xs : List TypedConstantTree) (t p : Phrase) (ps : List Phrase) → IsFlagSet op.GetElementPtr set → IsPrinted (type_row limits) unplaced_type source t → IsPrinted typed unplaced_typed x p → EachPrinted typed unplaced_typed xs ps → (place : Place) → IsPrinted (element_address_row limits typed place) unplaced_constant (tree.ElementAddress nowhere set source (constants (x ∷ xs))) (address_flags_phrase set ␣ in_parentheses (t ⌢ comma ␣ with_more p ps))
  element_address set source x xs t p ps f h k each place =
      printed_mapped (λ v. tree.ElementAddress place v.0 v.1.0 (constants v.1.1)) unplaced_constant (λ v. tree.ElementAddress nowhere v.0 v.1.0 (constants v.1.1)) (λ v. ap (λ cs. tree.ElementAddress nowhere v.0 (unplaced_type v.1.0) cs) (unplaced_list v.1.1))
      (printed_pair spaced (printed_address_flags set f)
      (printed_second opened_parenthesis printed_open_parenthesis
      (printed_like ((t ⌢ comma ␣ with_more p ps) ⌢ mark (codes ")")) (λ b. simp append_assoc)
      (printed_pair spaced (printed_before (tight starts_comma_mark) h printed_comma)
      (printed_before (tight starts_close_parenthesis) (printed_operands x xs p ps k each) printed_close_parenthesis)))))

  conversion : (o : Opcode) (from to : TypeTree) (c : ConstantTree) (t u p : Phrase) → IsPrinted typed unplaced_typed (from, c) (t ␣ p) → IsPrinted (type_row limits) unplaced_type to u → (place : Place) → IsPrinted (conversion_row limits typed place o) unplaced_constant (Conversion nowhere o from c to) (in_parentheses (t ␣ p ␣ phrase.word (codes "to") ␣ u))
  conversion o from to c t u p h k place =
      printed_mapped (λ v. Conversion place o v.0.0 v.0.1 v.1) unplaced_constant (λ v. Conversion nowhere o v.0.0 v.0.1 v.1) (λ v. refl)
      (printed_second opened_parenthesis printed_open_parenthesis
      (printed_like ((t ␣ p ␣ phrase.word (codes "to") ␣ u) ⌢ mark (codes ")")) (λ b. simp append_assoc)
      (printed_pair spaced (printed_before spaced h printed_to) (printed_before (tight starts_close_parenthesis) k printed_close_parenthesis))))

  arithmetic : (o : Opcode) (set : ℕ) (left_type right_type : TypeTree) (left right : ConstantTree) (t p u q : Phrase) → IsPrinted (flags_row o) (λ n. n) set (flags_phrase set) → IsPrinted typed unplaced_typed (left_type, left) (t ␣ p) → IsPrinted typed unplaced_typed (right_type, right) (u ␣ q) → (place : Place) → IsPrinted (arithmetic_row typed place o) unplaced_constant (Arithmetic nowhere o set left_type left right_type right) (flags_phrase set ␣ in_parentheses (t ␣ p ⌢ comma ␣ u ␣ q))
  arithmetic o set left_type right_type left right t p u q f h k place =
      printed_mapped (λ v. Arithmetic place o v.0 v.1.0.0 v.1.0.1 v.1.1.0 v.1.1.1) unplaced_constant (λ v. Arithmetic nowhere o v.0 v.1.0.0 v.1.0.1 v.1.1.0 v.1.1.1) (λ v. refl)
      (printed_pair spaced f
      (printed_second opened_parenthesis printed_open_parenthesis
      (printed_like ((t ␣ p ⌢ comma ␣ u ␣ q) ⌢ mark (codes ")")) (λ b. simp append_assoc)
      (printed_pair spaced (printed_before (tight starts_comma_mark) h printed_comma) (printed_before (tight starts_close_parenthesis) k printed_close_parenthesis)))))

  -- the constants that hold constants
  step_array : {x : ConstantTree} {p : Phrase} → IsPrinted (array_constant_row typed) unplaced_constant x p → IsPrinted (holder_step limits typed) unplaced_constant x p
  step_array h = printed_left (alt class (struct_constant_row typed) (alt class (packed_constant_row typed) (expression_row limits typed))) h

  step_struct : {x : ConstantTree} {p : Phrase} → IsPrinted (struct_constant_row typed) unplaced_constant x p → IsPrinted (holder_step limits typed) unplaced_constant x p
  step_struct h = printed_right (array_constant_row typed) (printed_left (alt class (packed_constant_row typed) (expression_row limits typed)) h)

  step_packed : {x : ConstantTree} {p : Phrase} → IsPrinted (packed_constant_row typed) unplaced_constant x p → IsPrinted (holder_step limits typed) unplaced_constant x p
  step_packed h = printed_right (array_constant_row typed) (printed_right (struct_constant_row typed) (printed_left (expression_row limits typed) h))

  step_expression : {x : ConstantTree} {p : Phrase} → IsPrinted (expression_row limits typed) unplaced_constant x p → IsPrinted (holder_step limits typed) unplaced_constant x p
  step_expression h = printed_right (array_constant_row typed) (printed_right (struct_constant_row typed) (printed_right (packed_constant_row typed) h))

inside_holder : (limits : Limits) (d : ℕ) {x : ConstantTree} {p : Phrase} → IsPrinted (holder_step limits (typed_at limits d)) unplaced_constant x p → IsPrinted (holder_row limits (suc d)) unplaced_constant x p
unfolding holder_core
inside_holder limits d h = printed_labelled holder_shape h

-- a constant with its type
pub printed_typed_at : (limits : Limits) (d : ℕ) (ty : Tree) (x : ConstantTree) (p : Phrase) → IsTypeText ty limits.nesting → IsPrinted (constant_at limits d) unplaced_constant x p → IsPrinted (typed_at limits d) unplaced_typed (type_tree ty, x) (type_phrase ty ␣ p)
unfolding typed_core
printed_typed_at limits d ty x p t h = printed_labelled type_shape (printed_pair spaced (printed_type limits ty limits.nesting t) h)

abbrev IsPrintedConstant : Limits → Tree → Constant → ℕ → Type 0
IsPrintedConstant limits ty c d = IsPrinted (constant_at limits d) unplaced_constant (constant_tree ty c) (constant_phrase ty c)

abbrev IsPrintedHolder : Limits → Tree → Constant → ℕ → Type 0
IsPrintedHolder limits ty c d = IsPrinted (holder_row limits d) unplaced_constant (constant_tree ty c) (constant_phrase ty c)

abbrev ArePrintedConstants : Limits → Constants → ℕ → Type 0
ArePrintedConstants limits cs d = EachPrinted (typed_at limits d) unplaced_typed (constant_list cs) (constant_phrases cs)

aggregate : (limits : Limits) (ty : Tree) (kind : Brackets) (cs : Constants) (d : ℕ) → ArePrintedConstants limits cs d → IsPrintedHolder limits ty (Aggregate kind cs) (suc d)
aggregate limits ty Square cs d h =
    inside_holder limits d (step_array limits (typed_at limits d) (printed_as (ap (λ ds. ListConstant nowhere brackets.Square ds) (constants_of_list cs)) (array_constant limits (typed_at limits d) (constant_list cs) (constant_phrases cs) h)))
aggregate limits ty Braces cs d h =
    inside_holder limits d (step_struct limits (typed_at limits d) (printed_as (ap (λ ds. ListConstant nowhere brackets.Braces ds) (constants_of_list cs)) (struct_constant limits (typed_at limits d) (constant_list cs) (constant_phrases cs) h)))
aggregate limits ty Packed cs d h =
    inside_holder limits d (step_packed limits (typed_at limits d) (printed_as (ap (λ ds. ListConstant nowhere brackets.Packed ds) (constants_of_list cs)) (packed_constant limits (typed_at limits d) (constant_list cs) (constant_phrases cs) h)))

address_holder : (limits : Limits) (ty : Tree) (set : ℕ) (source : Tree) (cs : Constants) (d : ℕ) → IsFlagSet op.GetElementPtr set → IsTypeText source limits.nesting → has_constants cs ≡ true → ArePrintedConstants limits cs d → IsPrintedHolder limits ty (ElementAddress set source cs) (suc d)
address_holder limits ty set source no_constants d f t some h = absurd cc
address_holder limits ty set source (more_constants first c cs) d f t some h =
    inside_holder limits d (step_expression limits (typed_at limits d)
    (printed_as (ap (λ ds. tree.ElementAddress nowhere set (type_tree source) ds) (constants_of_list (more_constants first c cs)))
    (expression limits (typed_at limits d) op.GetElementPtr refl (element_address limits (typed_at limits d) set (type_tree source) (type_tree first, constant_tree first c) (constant_list cs) (type_phrase source) (type_phrase first ␣ constant_phrase first c) (constant_phrases cs) f (printed_type limits source limits.nesting t) h.0 h.1))))

cast_holder : (limits : Limits) (ty : Tree) (o : Opcode) (from : Tree) (c : Constant) (to : Tree) (d : ℕ) → is_constant_cast o ≡ true → IsTypeText from limits.nesting → IsTypeText to limits.nesting → IsPrintedConstant limits from c d → IsPrintedHolder limits ty (Cast o from c to) (suc d)
cast_holder limits ty o from c to d is t u h = by o is (conversion limits (typed_at limits d) o (type_tree from) (type_tree to) (constant_tree from c) (type_phrase from) (type_phrase to) (constant_phrase from c) (printed_typed_at limits d from (constant_tree from c) (constant_phrase from c) t h) (printed_type limits to limits.nesting u))
  where
    by : (o : Opcode) → is_constant_cast o ≡ true → ((place : Place) → IsPrinted (conversion_row limits (typed_at limits d) place o) unplaced_constant (constant_tree ty (Cast o from c to)) (in_parentheses (type_phrase from ␣ constant_phrase from c ␣ phrase.word (codes "to") ␣ type_phrase to))) → IsPrintedHolder limits ty (Cast o from c to) (suc d)
    by op.PtrToInt is h = inside_holder limits d (step_expression limits (typed_at limits d) (expression limits (typed_at limits d) op.PtrToInt refl h))
    by op.IntToPtr is h = inside_holder limits d (step_expression limits (typed_at limits d) (expression limits (typed_at limits d) op.IntToPtr refl h))
    by op.Trunc is h = inside_holder limits d (step_expression limits (typed_at limits d) (expression limits (typed_at limits d) op.Trunc refl h))
    by _ is h = absurd cc

arithmetic_holder : (limits : Limits) (ty : Tree) (o : Opcode) (set : ℕ) (s : Tree) (b : Constant) (t : Tree) (c : Constant) (d : ℕ) → is_constant_binary o ≡ true → IsFlagSet o set → IsTypeText s limits.nesting → IsTypeText t limits.nesting → IsPrintedConstant limits s b d × IsPrintedConstant limits t c d → IsPrintedHolder limits ty (Binary o set s b t c) (suc d)
arithmetic_holder limits ty o set s b t c d is f v w h =
    by o is f (λ g. arithmetic limits (typed_at limits d) o set (type_tree s) (type_tree t) (constant_tree s b) (constant_tree t c) (type_phrase s) (constant_phrase s b) (type_phrase t) (constant_phrase t c) g (printed_typed_at limits d s (constant_tree s b) (constant_phrase s b) v h.0) (printed_typed_at limits d t (constant_tree t c) (constant_phrase t c) w h.1))
  where
    by : (o : Opcode) → is_constant_binary o ≡ true → IsFlagSet o set → (IsPrinted (flags_row o) (λ n. n) set (flags_phrase set) → (place : Place) → IsPrinted (arithmetic_row (typed_at limits d) place o) unplaced_constant (constant_tree ty (Binary o set s b t c)) (flags_phrase set ␣ in_parentheses (type_phrase s ␣ constant_phrase s b ⌢ comma ␣ type_phrase t ␣ constant_phrase t c))) → IsPrintedHolder limits ty (Binary o set s b t c) (suc d)
    by op.Add is f h = inside_holder limits d (step_expression limits (typed_at limits d) (expression limits (typed_at limits d) op.Add refl (h (printed_flags op.Add set refl f))))
    by op.Sub is f h = inside_holder limits d (step_expression limits (typed_at limits d) (expression limits (typed_at limits d) op.Sub refl (h (printed_flags op.Sub set refl f))))
    by op.Xor is f h = inside_holder limits d (step_expression limits (typed_at limits d) (expression limits (typed_at limits d) op.Xor refl (h (printed_flags op.Xor set refl f))))
    by _ is f h = absurd cc

mutual
  -- a constant, within the depth of its brackets
  pub printed_constant : (limits : Limits) (ty : Tree) (c : Constant) (d : ℕ) → IsConstantText limits.nesting ty c d → IsPrintedConstant limits ty c d
  printed_constant limits ty (Integer n) d h = printed_integer (holder_row limits d) ty n h
  printed_constant limits ty (Truth b) d h = truth_constant (holder_row limits d) b
  printed_constant limits ty Null d h = simple_constant (holder_row limits d) (printed_simple simple.Null)
  printed_constant limits ty Undef d h = simple_constant (holder_row limits d) (printed_simple simple.Undef)
  printed_constant limits ty Poison d h = simple_constant (holder_row limits d) (printed_simple simple.Poison)
  printed_constant limits ty ZeroInitializer d h = simple_constant (holder_row limits d) (printed_simple simple.ZeroInitializer)
  printed_constant limits ty (Address name) d h = address_constant (holder_row limits d) (printed_mapped AddressConstant unplaced_constant AddressConstant (λ v. refl) (printed_global name h))
  printed_constant limits ty (ByteString bytes) d h = bytes_constant (holder_row limits d) (printed_mapped BytesConstant unplaced_constant BytesConstant (λ v. refl) (printed_byte_string bytes h))
  printed_constant limits ty (Aggregate kind cs) d h =
      holder_constant (holder_row limits d) (inside_bracket (AreConstantTexts limits.nesting cs) (ArePrintedConstants limits cs) (IsPrintedHolder limits ty (Aggregate kind cs)) d h
      (λ k g. printed_constants limits cs k g) (λ k g. aggregate limits ty kind cs k g))
  printed_constant limits ty (ElementAddress set source cs) d h =
      holder_constant (holder_row limits d) (inside_bracket (AreConstantTexts limits.nesting cs) (ArePrintedConstants limits cs) (IsPrintedHolder limits ty (ElementAddress set source cs)) d h.3
      (λ k g. printed_constants limits cs k g) (λ k g. address_holder limits ty set source cs k h.0 h.1 h.2 g))
  printed_constant limits ty (Cast o from c to) d h =
      holder_constant (holder_row limits d) (inside_bracket (IsConstantText limits.nesting from c) (IsPrintedConstant limits from c) (IsPrintedHolder limits ty (Cast o from c to)) d h.3
      (λ k g. printed_constant limits from c k g) (λ k g. cast_holder limits ty o from c to k h.0 h.1 h.2 g))
  printed_constant limits ty (Binary o set s b t c) d h =
      holder_constant (holder_row limits d) (inside_bracket (λ k. IsConstantText limits.nesting s b k × IsConstantText limits.nesting t c k) (λ k. IsPrintedConstant limits s b k × IsPrintedConstant limits t c k) (IsPrintedHolder limits ty (Binary o set s b t c)) d h.4
      (λ k g. (printed_constant limits s b k g.0, printed_constant limits t c k g.1)) (λ k g. arithmetic_holder limits ty o set s b t c k h.0 h.1 h.2 h.3 g))

  pub printed_constants : (limits : Limits) (cs : Constants) (d : ℕ) → AreConstantTexts limits.nesting cs d → ArePrintedConstants limits cs d
  printed_constants limits no_constants d h = tt
  printed_constants limits (more_constants ty c cs) d h = (printed_typed_at limits d ty (constant_tree ty c) (constant_phrase ty c) h.0 (printed_constant limits ty c d h.1), printed_constants limits cs d h.2)

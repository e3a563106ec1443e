-- What is told piece by piece is the text of the tree.
use Rattle.std.proofs.Common.{◌≡◌, ℕ, suc, ◌-◌, Bool, true, false, List, [], ◌∷◌, ◌++◌, length, take, Some, refl, sym, ap, ◌∙◌, arith, append_assoc, length-append}
use Rattle.std.specs.Prelude.{slice_get, slice_index_or}
use Rattle.std.specs.List.{flat_map}
use Rattle.std.proofs.lemmas.List.{append-nil, take_at, get_or_at}
use Rattle.bit_stream.specs.Abbreviation.{ops_of}
use Rattle.bit_tree.specs.Stream.{StreamTree, nothing, block, definition, values}
use Rattle.bit_tree.specs.Pieces.{Piece, begun, ended, defines, holds, flat}
use Rattle.bit_dump.specs.Tally.{tally}
use Rattle.bit_dump.specs.Text.{operand_text, block_line, end_line, definition_line, record_line, lines, dump_text}
use Rattle.bit_dump.specs.Outline.{Outline, nothing_told, here, shown, front, after, after_block, after_end, after_definition, after_record, with_more, record_head, record_end, after_head, after_operand, after_operands, after_close, told, summed}

abbrev with_text : Outline → List ℕ → Outline
with_text o text = record { whole = o.whole; unclosed = o.unclosed; tally = o.tally; text = text }

pub after_front : (w : List ℕ) (o : Outline) (p : Piece) → after (front w o) p ≡ front w (after o p)
after_front w o (begun id width words) = ap (λ (l : List ℕ). with_text (after_block o id width words) l) (append_assoc w o.text _)
after_front w o ended = ap (λ (l : List ℕ). with_text (after_end o) l) (append_assoc w o.text _)
after_front w o (defines id t) = ap (λ (l : List ℕ). with_text (after_definition o id (ops_of t)) l) (append_assoc w o.text _)
after_front w o (holds id code operands has_blob blob) = ap (λ (l : List ℕ). with_text (after_record o id code operands has_blob (length blob)) l) (append_assoc w o.text _)

pub told_front : (w : List ℕ) (o : Outline) (ps : List Piece) → told (front w o) ps ≡ front w (told o ps)
unfolding told
told_front w o [] = refl
told_front w o (p ∷ ps) = rw (after_front w o p) (told_front w (after o p) ps)

pub told_join : (o : Outline) (ps qs : List Piece) → told o (ps ++ qs) ≡ told (told o ps) qs
unfolding told
told_join o [] qs = refl
told_join o (p ∷ ps) qs = told_join (after o p) ps qs

-- the text only grows
pub grown : (o : Outline) (p : Piece) → (more : List ℕ) × ((after o p).text ≡ o.text ++ more)
grown o (begun id width words) = (_, refl)
grown o ended = (_, refl)
grown o (defines id t) = (_, refl)
grown o (holds id code operands has_blob blob) = (_, refl)

pub grows : (o : Outline) (ps : List Piece) → (more : List ℕ) × ((told o ps).text ≡ o.text ++ more)
unfolding told
grows o [] = ([], sym (append-nil o.text))
grows o (p ∷ ps) =
    let one = grown o p in
    let later = grows (after o p) ps in
    (one.0 ++ later.0, later.1 ∙ (ap (λ (l : List ℕ). l ++ later.0) one.1 ∙ append_assoc o.text one.0 later.0))

-- a record, told operand by operand

pub more_front : (w : List ℕ) (o : Outline) (more : List ℕ) → with_more (front w o) more ≡ front w (with_more o more)
more_front w o more = ap (λ (l : List ℕ). with_text o l) (append_assoc w o.text (shown o.whole more))

pub head_front : (w : List ℕ) (o : Outline) (id code : ℕ) → after_head (front w o) id code ≡ front w (after_head o id code)
head_front w o id code = ap (λ (l : List ℕ). with_text (after_head o id code) l) (append_assoc w o.text _)

pub operands_grow : (o : Outline) (ns : List ℕ) → (more : List ℕ) × ((after_operands o ns).text ≡ o.text ++ more)
unfolding after_operands
operands_grow o [] = ([], sym (append-nil o.text))
operands_grow o (n ∷ ns) =
    let later = operands_grow (after_operand o n) ns in
    (shown o.whole (operand_text n) ++ later.0, later.1 ∙ append_assoc o.text (shown o.whole (operand_text n)) later.0)

shown_both : (whole : Bool) (a b : List ℕ) → shown whole a ++ shown whole b ≡ shown whole (a ++ b)
shown_both true a b = refl
shown_both false a b = refl

shown_nothing : (whole : Bool) → shown whole [] ≡ []
shown_nothing true = refl
shown_nothing false = refl

operands_are : (o : Outline) (ns : List ℕ) → after_operands o ns ≡ with_more o (flat_map operand_text ns)
unfolding after_operands
operands_are o [] = ap (λ (l : List ℕ). with_text o l) (sym (ap (λ (l : List ℕ). o.text ++ l) (shown_nothing o.whole) ∙ append-nil o.text))
operands_are o (n ∷ ns) = operands_are (after_operand o n) ns ∙ ap (λ (l : List ℕ). with_text o l) (append_assoc o.text (shown o.whole (operand_text n)) (shown o.whole (flat_map operand_text ns))
    ∙ ap (λ (l : List ℕ). o.text ++ l) (shown_both o.whole (operand_text n) (flat_map operand_text ns)))

record_spread : (whole : Bool) (t a b c : List ℕ) → ((t ++ shown whole a) ++ shown whole b) ++ shown whole c ≡ t ++ shown whole (a ++ b ++ c)
record_spread true t a b c = simp append_assoc
record_spread false t a b c = simp append-nil

line_is : (depth id code : ℕ) (ns : List ℕ) (has_blob : Bool) (size : ℕ) → record_head depth id code ++ flat_map operand_text ns ++ record_end has_blob size ≡ record_line depth id code ns has_blob size
unfolding record_head record_end record_line
line_is depth id code ns has_blob size = simp append_assoc

pub record_told : (o : Outline) (id code : ℕ) (ns : List ℕ) (has_blob : Bool) (size : ℕ) → after_close (after_operands (after_head o id code) ns) has_blob size ≡ after_record o id code ns has_blob size
record_told o id code ns has_blob size =
    let head = after_head o id code in
    let n = length o.unclosed in
    ap (λ (x : Outline). after_close x has_blob size) (operands_are head ns) ∙ ap (λ (l : List ℕ). with_text head l) (record_spread o.whole o.text (record_head n id code) (flat_map operand_text ns) (record_end has_blob size)
    ∙ ap (λ (l : List ℕ). o.text ++ shown o.whole l) (line_is n id code ns has_blob size))

-- where no entry is told, an operand adds nothing
pub operands_untold : (o : Outline) (ns : List ℕ) → o.whole ≡ false → after_operands o ns ≡ o
operands_untold o ns untold = operands_are o ns ∙ ap (λ (l : List ℕ). with_text o l) (rw untold (append-nil o.text))

-- trees

abbrev over : Outline → StreamTree → Outline
over o tree = record { whole = o.whole; unclosed = o.unclosed; tally = tally (here o.unclosed) tree o.tally; text = o.text ++ shown o.whole (lines (length o.unclosed) tree) }

-- the innermost of some blocks
innermost : (unclosed : List ℕ) (id : ℕ) → here (unclosed ++ id ∷ []) ≡ Some id
innermost unclosed id = got unclosed ∙ refl where
  get_last : (unclosed : List ℕ) → slice_get (unclosed ++ id ∷ []) (length unclosed) ≡ Some id
  get_last [] = refl
  get_last (x ∷ unclosed) = get_last unclosed

  got : (unclosed : List ℕ) → here (unclosed ++ id ∷ []) ≡ Some id
  got unclosed = let size : length (unclosed ++ id ∷ []) - 1 ≡ length unclosed = omega (arith, length-append unclosed (id ∷ [])) in rw size (get_last unclosed)

-- behind the end of a block, the outline of the block around it
left_block : (o : Outline) (id : ℕ) (t : StreamTree) (width words : ℕ) → after_end (over (after_block o id width words) t) ≡ record {
  whole = o.whole;
  unclosed = o.unclosed;
  tally = tally (Some id) t (after_block o id width words).tally;
  text = o.text ++ shown o.whole (block_line (length o.unclosed) id width words) ++ shown o.whole (lines (suc (length o.unclosed)) t) ++ shown o.whole (end_line (length o.unclosed) id);
}
left_block o id t width words =
    let deeper : length (o.unclosed ++ id ∷ []) ≡ suc (length o.unclosed) = omega (arith, length-append o.unclosed (id ∷ [])) in
    let less : suc (length o.unclosed) - 1 ≡ length o.unclosed = omega arith in
    let back : take (length o.unclosed) (o.unclosed ++ id ∷ []) ≡ o.unclosed = take_at o.unclosed (id ∷ []) (length o.unclosed) refl in
    let last : slice_index_or (o.unclosed ++ id ∷ []) (length o.unclosed) 0 ≡ id = get_or_at o.unclosed id [] 0 (length o.unclosed) refl in
    rw (innermost o.unclosed id, deeper, less, back, last) refl

spread : (whole : Bool) (t b l e k : List ℕ) → (((t ++ shown whole b) ++ shown whole l) ++ shown whole e) ++ shown whole k ≡ t ++ shown whole (((b ++ l) ++ e) ++ k)
spread true t b l e k = simp append_assoc
spread false t b l e k = simp append-nil

spread_one : (whole : Bool) (t a k : List ℕ) → (t ++ shown whole a) ++ shown whole k ≡ t ++ shown whole (a ++ k)
spread_one true t a k = append_assoc t a k
spread_one false t a k = simp append-nil

pub told_tree : (o : Outline) (t : StreamTree) → told o (flat t) ≡ over o t
unfolding told flat tally lines
told_tree o nothing = rw (shown_nothing o.whole, append-nil) refl
told_tree o (block id width words inside behind) =
    let within = told_tree (after_block o id width words) inside in
    let around = told_tree (after_end (over (after_block o id width words) inside)) behind in
    let all = over o (block id width words inside behind) in
    let n = length o.unclosed in
    told_join (after_block o id width words) (flat inside) (ended ∷ flat behind) ∙ (ap (λ (x : Outline). told (after_end x) (flat behind)) within ∙ (around
    ∙ (ap (λ (x : Outline). over x behind) (left_block o id inside width words)
    ∙ ap (λ (l : List ℕ). with_text all l) (spread o.whole o.text (block_line n id width words) (lines (suc n) inside) (end_line n id) (lines n behind)))))
told_tree o (definition id t behind) =
    let all = over o (definition id t behind) in
    let n = length o.unclosed in
    told_tree (after_definition o id (ops_of t)) behind ∙ ap (λ (l : List ℕ). with_text all l) (spread_one o.whole o.text (definition_line n id (ops_of t)) (lines n behind))
told_tree o (values id code operands has_blob blob behind) =
    let all = over o (values id code operands has_blob blob behind) in
    let n = length o.unclosed in
    told_tree (after_record o id code operands has_blob (length blob)) behind ∙ ap (λ (l : List ℕ). with_text all l) (spread_one o.whole o.text (record_line n id code operands has_blob (length blob)) (lines n behind))

-- the whole text
pub summed_is : (whole : Bool) (tree : StreamTree) → (summed (told (nothing_told whole) (flat tree))).text ≡ dump_text tree whole
unfolding dump_text
summed_is whole tree = rw (told_tree (nothing_told whole) tree) refl

-- One more of a list behind a comma.
use Rattle.std.proofs.Common.{◌≡◌, ℕ, ◌<◌, List, [], ◌∷◌, ◌++◌, length, map, refl, sym, ◌∙◌, true, arith}
use Rattle.std.proofs.lemmas.List.{map-append}
use Rattle.ir_base.specs.declared.place.Place.{Place}
use Rattle.ir_lexer.specs.Ahead.{Located}
use Rattle.ir_terminals.specs.PhraseRows.Row.{Reading, Row, Done, begins, labelled, many, keep_second}
use Rattle.ir_terminals.specs.PhraseRows.Reads.{Reads}
use Rattle.ir_terminals.proofs.OnPhraseRows.Repeated.{with_front, many_next}
use Rattle.ir_terminals.proofs.OnPhraseRows.Chain.{reads_second}
use Rattle.ir_terminals.proofs.OnPhraseRows.Values.{read_less, read_no_more}
use Rattle.ir_terminals.specs.declared.limits.Limits.{Limits}
use Rattle.ir_terminals.specs.declared.terminal.Terminal.TheVariants as terminal
use Rattle.ir_terminals.specs.Role.{class}
use Rattle.ir_terminals.specs.Terminal.{code}
use Rattle.ir_terminals.specs.Tokens.{word}
use Rattle.ir_terminals.proofs.RowsRead.{reads_word}
use Rattle.ir_phrases.specs.Constants.Tree.{TypeTree, TypedConstantTree}
use Rattle.ir_phrases.specs.Constants.Types.{type_shape, type_core, nest_row, type_at}
use Rattle.ir_phrases.specs.Constants.Constants.{typed_core, constant_at, typed_at}
use Rattle.ir_phrases.proofs.OnConstants.Grammar.{reads_type_at, reads_typed_at}

module _ {X A : Type 0} (view : X → A) (t : Row Located A) (h : Reads class (labelled type_shape t) type_shape) where
  -- what was read and what is left are the whole list, also with one more
  next : (items new : List X) (x : X) (place : Place) (ts mid rest : List Located) (whole : Reading Located (List A)) → begins class (code terminal.Comma ∷ []) ts ≡ true → (word terminal.Comma).run ts ≡ Done place mid → t.run mid ≡ Done (view x) rest → new ≡ items ++ (x ∷ []) → with_front (map view items) ((many class (keep_second (word terminal.Comma) (labelled type_shape t))).run ts) ≡ whole → with_front (map view new) ((many class (keep_second (word terminal.Comma) (labelled type_shape t))).run rest) ≡ whole
  next items new x place ts mid rest whole b e f g i =
      rw g (rw (map-append view items (x ∷ []))
      (sym (many_next class (reads_second class (reads_word terminal.Comma) h refl) refl refl (map view items) (view x) ts rest b (rw e (rw f refl))) ∙ i))

  -- and less is left
  less : (x : X) (place : Place) (ts mid rest : List Located) → (word terminal.Comma).run ts ≡ Done place mid → t.run mid ≡ Done (view x) rest → length rest < length ts
  less x place ts mid rest e f = omega (arith, read_less (reads_word terminal.Comma) refl ts mid place e, read_no_more h mid rest (view x) f)

-- of types
pub types_next : {X : Type 0} (view : X → TypeTree) (limits now : Limits) (d : ℕ) (items new : List X) (x : X) (place : Place) (ts mid rest : List Located) (whole : Reading Located (List TypeTree)) → now ≡ limits → begins class (code terminal.Comma ∷ []) ts ≡ true → (word terminal.Comma).run ts ≡ Done place mid → (type_at now d).run mid ≡ Done (view x) rest → new ≡ items ++ (x ∷ []) → with_front (map view items) ((many class (keep_second (word terminal.Comma) (type_at limits d))).run ts) ≡ whole → with_front (map view new) ((many class (keep_second (word terminal.Comma) (type_at limits d))).run rest) ≡ whole
types_next view limits now d items new x place ts mid rest whole l b e f g i =
    next view (type_core limits (nest_row limits d)) (reads_type_at limits d) items new x place ts mid rest whole b e (rw l at f) g i

pub types_less : {X : Type 0} (view : X → TypeTree) (now : Limits) (d : ℕ) (x : X) (place : Place) (ts mid rest : List Located) → (word terminal.Comma).run ts ≡ Done place mid → (type_at now d).run mid ≡ Done (view x) rest → length rest < length ts
types_less view now d x place ts mid rest e f = less view (type_core now (nest_row now d)) (reads_type_at now d) x place ts mid rest e f

-- of constants with their types
pub elements_next : {X : Type 0} (view : X → TypedConstantTree) (limits now : Limits) (d : ℕ) (items new : List X) (x : X) (place : Place) (ts mid rest : List Located) (whole : Reading Located (List TypedConstantTree)) → now ≡ limits → begins class (code terminal.Comma ∷ []) ts ≡ true → (word terminal.Comma).run ts ≡ Done place mid → (typed_at now d).run mid ≡ Done (view x) rest → new ≡ items ++ (x ∷ []) → with_front (map view items) ((many class (keep_second (word terminal.Comma) (typed_at limits d))).run ts) ≡ whole → with_front (map view new) ((many class (keep_second (word terminal.Comma) (typed_at limits d))).run rest) ≡ whole
elements_next view limits now d items new x place ts mid rest whole l b e f g i =
    next view (typed_core limits (constant_at limits d)) (reads_typed_at limits d) items new x place ts mid rest whole b e (rw l at f) g i

pub elements_less : {X : Type 0} (view : X → TypedConstantTree) (now : Limits) (d : ℕ) (x : X) (place : Place) (ts mid rest : List Located) → (word terminal.Comma).run ts ≡ Done place mid → (typed_at now d).run mid ≡ Done (view x) rest → length rest < length ts
elements_less view now d x place ts mid rest e f = less view (typed_core now (constant_at now d)) (reads_typed_at now d) x place ts mid rest e f

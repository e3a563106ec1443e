-- Lists behind commas, which metadata may end.
use Rattle.std.proofs.Common.{List, [], ◌∷◌, ◌++◌, Bool, true, false}
use Rattle.ir_lexer.specs.Ahead.{Located}
use Rattle.ir_terminals.specs.PhraseRows.Row.{Row, chain}
use Rattle.ir_terminals.specs.declared.terminal.Terminal.TheVariants as terminal
use Rattle.ir_terminals.specs.Role.{class}
use Rattle.ir_terminals.specs.Tokens.{word}
use Rattle.ir_phrases.specs.Instructions.Dropped.{comma_shape, commas_shape, attachment_row}
use Rattle.ir_phrases.specs.Instructions.Tails.{ListedParts, listed_step, listed_core, listed_row}
use Rattle.name_rules.specs.Demand.{Demand}
use Rattle.name_rules.proofs.OnPlaces.Draws.{Draws, Drawn, Spans, all_asked, spans_draws, draws_spans, spans_labelled, spans_chain, spans_loop, spans_any, spans_mapped, spans_second, spans_alt, Adds, adds_further, adds_none, adds_one, spans_added, alone}

module _ {A X : Type 0} (p : Row Located A) (f : X → A → List Demand) (h : Draws p f) where
  abbrev Longer : List A → List Located → ListedParts A → Type 0
  Longer parts us s = Adds (all_asked f) parts us s.0

  further : (parts : List A) (us vs : List Located) (s : ListedParts A) → Longer parts vs s → Longer parts (us ++ vs) s
  further parts us vs s x = adds_further (all_asked f) parts s.0 us vs x

  listed_adds : (parts : List A) (closed : Bool) → Spans (listed_step p (parts, closed)) (Longer parts)
  listed_adds parts true =
      spans_second (word terminal.Comma) (Longer parts) (further parts) (spans_mapped _ (Longer parts) (spans_any attachment_row) (λ us u x. adds_none (all_asked f) parts us))
  listed_adds parts false =
      spans_second (word terminal.Comma) (Longer parts) (further parts)
      (spans_alt class
      (spans_mapped _ (Longer parts) (spans_any attachment_row) (λ us u x. adds_none (all_asked f) parts us))
      (spans_mapped _ (Longer parts) (spans_draws f h) (λ us a d. adds_one f parts us a d)))

  abbrev Kept : List Located → ListedParts A → Type 0
  Kept us s = Drawn (all_asked f) us s.0

  listed_kept : (us : List Located) (s : ListedParts A) → Kept us s → Spans (listed_step p s) (λ vs m. Kept (us ++ vs) m)
  listed_kept us (parts, closed) d = spans_added (λ s. s.0) (all_asked f) parts us d (listed_adds parts closed)

  spans_listed : (us : List Located) (parts : List A) → Drawn (all_asked f) us parts → Spans (listed_core p parts) (λ vs all. Drawn (all_asked f) (us ++ vs) all)
  unfolding listed_core
  spans_listed us parts d = spans_mapped _ (λ vs all. Drawn (all_asked f) (us ++ vs) all) (spans_loop class comma_shape Kept listed_kept us (parts, false) d) (λ vs s y. y)

  -- behind a first one
  pub draws_list : (first : Row Located A) → Draws first f → Draws (chain first commas_shape (λ a. listed_row p (a ∷ []))) (all_asked f)
  draws_list first g =
      draws_spans (all_asked f)
      (spans_chain commas_shape (Drawn (all_asked f)) (spans_draws f g) (λ us a d. spans_labelled commas_shape (spans_listed us (a ∷ []) (alone f us a d))))

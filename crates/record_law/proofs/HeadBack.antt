-- The version and the texts of a module are read back.
use Rattle.std.proofs.Common.{◌≡◌, ℕ, suc, true, List, [], ◌++◌, Option, Some, None, Ok, refl, sym, ap, ◌∙◌, append-nil}
use Rattle.std.proofs.lemmas.Bool.{eq-eqb}
use Rattle.module_arena.specs.Module.{Bytes, Module}
use Rattle.bit_tree.specs.Written.{Written}
use Rattle.record_table.specs.Walk.{going, told, next}
use Rattle.record_table.specs.Layout.{judged}
use Rattle.record_table.specs.Faults.{Answer, ◌>>=◌}
use Rattle.record_table.specs.Records.{Sofar, may_follow, is_version, version, version_record, text_record, record_at_place, record_in, module_from}
use Rattle.record_table.specs.Spelling.{put, records_put, text_line, head_lines}
use Rattle.record_table.specs.FittingLines.{IfSome}
use Rattle.record_law.specs.FittingModules.{at_text}
use Rattle.record_table.specs.Lays.{Lays}
use Rattle.record_law.proofs.OnBodies.BodyBack.{put_append}

-- what is read behind a text, where there is one
abbrev pub behind_text : Sofar → ℕ → (Option Bytes → Sofar) → Option Bytes → Sofar
behind_text s place given None = s
behind_text s place given (Some t) = record (given (Some t)) { at = suc s.at; last = place }

module _ (s : Sofar) (lays_last : Lays (λ t. s.texts.holds t ≡ true) s.texts.last) where
  text_judged : (t : Bytes) → s.texts.holds t ≡ true → judged s.texts.last (s.texts.last.spell t) ≡ (t, None)
  text_judged t fit = ap (λ p. (p.0, told p.1)) (ap (λ ns. s.texts.last.read (going ns None)) (sym (append-nil (s.texts.last.spell t))) ∙ lays_last.back t [] fit)

  text_placed : (place : ℕ) (after : Sofar) → may_follow s.last place ≡ true → record_at_place s place None after ≡ Ok (record after { at = suc s.at; last = place })
  text_placed place after may = rw may refl

  -- a text stands in a record of that code, at that place of the order
  pub text_back : (code place : ℕ) (given : Option Bytes → Sofar) (text : Option Bytes) (behind : Written) → ((operands : List ℕ) → record_in s code operands ≡ text_record s place operands given)
      → IfSome (λ t. s.texts.holds t ≡ true) text → may_follow s.last place ≡ true
      → module_from s (records_put (put (text_line s.texts code text) behind)) ≡ module_from (behind_text s place given text) (records_put behind)
  text_back code place given None behind by fit may = refl
  text_back code place given (Some t) behind by fit may =
      ap (λ (answer : Answer Sofar). answer >>= λ u. module_from u (records_put behind))
      (by (s.texts.last.spell t) ∙ ap (λ (x : Bytes × Option ℕ). record_at_place s place x.1 (given (Some x.0))) (text_judged t fit) ∙ text_placed place (given (Some t)) may)

-- the version stands first
pub version_back : (s : Sofar) → is_version s.texts.version ≡ true → s.last ≡ 0 → version_record s (version.spell s.texts.version) ≡ Ok (record s { at = suc s.at; last = 1 })
unfolding next
version_back s known first = rw (first, known, eq-eqb s.texts.version s.texts.version refl) refl

abbrev pub last_text : ℕ → ℕ → Option Bytes → ℕ
last_text last place None = last
last_text last place (Some t) = place

layout_may : (source : Option Bytes) → may_follow (last_text 1 2 source) 3 ≡ true
layout_may None = refl
layout_may (Some t) = refl

triple_may : (source layout : Option Bytes) → may_follow (last_text (last_text 1 2 source) 3 layout) 4 ≡ true
triple_may None None = refl
triple_may None (Some t) = refl
triple_may (Some t) None = refl
triple_may (Some t) (Some u) = refl

module _ (s : Sofar) (lays_last : Lays (λ t. s.texts.holds t ≡ true) s.texts.last) where
  -- with these texts
  abbrev pub headed : ℕ → ℕ → Option Bytes → Option Bytes → Option Bytes → Sofar
  headed at last source layout triple = record s { at = at; last = last; source = source; layout = layout; triple = triple }

  source_is : (at last : ℕ) (text : Option Bytes) → behind_text (headed at last None None None) 2 (λ x. headed at last x None None) text ≡ headed (at_text at text) (last_text last 2 text) text None None
  source_is at last None = refl
  source_is at last (Some t) = refl

  layout_is : (at last : ℕ) (source text : Option Bytes) → behind_text (headed at last source None None) 3 (λ x. headed at last source x None) text ≡ headed (at_text at text) (last_text last 3 text) source text None
  layout_is at last source None = refl
  layout_is at last source (Some t) = refl

  triple_is : (at last : ℕ) (source layout text : Option Bytes) → behind_text (headed at last source layout None) 4 (λ x. headed at last source layout x) text ≡ headed (at_text at text) (last_text last 4 text) source layout text
  triple_is at last source layout None = refl
  triple_is at last source layout (Some t) = refl

  pub texts_back : (at : ℕ) (source layout triple : Option Bytes) (behind : Written)
      → IfSome (λ t. s.texts.holds t ≡ true) source → IfSome (λ t. s.texts.holds t ≡ true) layout → IfSome (λ t. s.texts.holds t ≡ true) triple
      → module_from (headed at 1 None None None) (records_put (put (text_line s.texts 2 source) (put (text_line s.texts 3 layout) (put (text_line s.texts 4 triple) behind))))
      ≡ module_from (headed (at_text (at_text (at_text at source) layout) triple) (last_text (last_text (last_text 1 2 source) 3 layout) 4 triple) source layout triple) (records_put behind)
  texts_back at source layout triple behind fit_s fit_l fit_t =
      let on = λ (w : Written) (u : Sofar). module_from u (records_put w) in
      let third = put (text_line s.texts 4 triple) behind in
      let second = put (text_line s.texts 3 layout) third in
      let at_2 = at_text at source in
      let last_2 = last_text 1 2 source in
      let at_3 = at_text at_2 layout in
      let last_3 = last_text last_2 3 layout in
      text_back (headed at 1 None None None) lays_last 2 2 (λ x. headed at 1 x None None) source second (λ operands. refl) fit_s refl
      ∙ ap (on second) (source_is at 1 source)
      ∙ text_back (headed at_2 last_2 source None None) lays_last 3 3 (λ x. headed at_2 last_2 source x None) layout third (λ operands. refl) fit_l (layout_may source)
      ∙ ap (on third) (layout_is at_2 last_2 source layout)
      ∙ text_back (headed at_3 last_3 source layout None) lays_last 4 4 (λ x. headed at_3 last_3 source layout x) triple behind (λ operands. refl) fit_t (triple_may source layout)
      ∙ ap (on behind) (triple_is at_3 last_3 source layout triple)

  -- the version and the texts
  pub head_back : (at : ℕ) (m : Module) (behind : Written) → is_version s.texts.version ≡ true
      → IfSome (λ t. s.texts.holds t ≡ true) m.source → IfSome (λ t. s.texts.holds t ≡ true) m.layout → IfSome (λ t. s.texts.holds t ≡ true) m.triple
      → module_from (headed at 0 None None None) (records_put (put (head_lines s.texts m) behind))
      ≡ module_from (headed (at_text (at_text (at_text (suc at) m.source) m.layout) m.triple) (last_text (last_text (last_text 1 2 m.source) 3 m.layout) 4 m.triple) m.source m.layout m.triple) (records_put behind)
  head_back at m behind known fit_s fit_l fit_t =
      let a = text_line s.texts 2 m.source in
      let b = text_line s.texts 3 m.layout in
      let c = text_line s.texts 4 m.triple in
      let start = headed (suc at) 1 None None None in
      ap (λ (answer : Answer Sofar). answer >>= λ u. module_from u (records_put (put (a ++ b ++ c) behind))) (version_back (headed at 0 None None None) known refl)
      ∙ ap (λ w. module_from start (records_put w)) (put_append (a ++ b) c behind)
      ∙ ap (λ w. module_from start (records_put w)) (put_append a b (put c behind))
      ∙ texts_back (suc at) m.source m.layout m.triple behind fit_s fit_l fit_t

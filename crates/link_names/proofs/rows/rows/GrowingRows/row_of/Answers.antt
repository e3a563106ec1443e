use Rattle.std.proofs.Common.{◌≡◌, ℕ, Bool, true, false, not, List, Some, refl, sym, ap, ◌∙◌, nat_eq}
use Rattle.std.specs.Prelude.{slice_get}
use Rattle.std.proofs.lemmas.Bool.{eqb-true}
use Rattle.link_names.proofs.rows.rows.GrowingRows.row_of.Goals as goal

-- the number at the row
here_is : (keys : List ℕ) (row shape : ℕ) → (k : ℕ) × (slice_get keys row ≡ Some k) × (nat_eq shape k ≡ true) → slice_get keys row ≡ Some shape
here_is keys row shape h = h.1 ∙ ap Some (sym (eqb-true shape h.0 h.2))

-- a key that is told to be new, or not
told_new : (is_new there : Bool) → is_new ≡ not there → is_new ≡ true → there ≡ true → ⊥
told_new is_new true told new e = cc
told_new is_new false told new e = cc

told_old : (is_new there : Bool) → is_new ≡ not there → is_new ≡ false → there ≡ false → ⊥
told_old is_new true told new e = cc
told_old is_new false told new e = cc

pub returns-then-not-is_new-clause-here : goal.returns-then-not-is_new-clause-here
returns-then-not-is_new-clause-here c = here_is c.insert_full.new.self.keys c.in_ok-row.row c.args.shape c.in_ok-row.ensures.stored

pub returns-then-not-is_new-clause-new : goal.returns-then-not-is_new-clause-new
returns-then-not-is_new-clause-new c = λ e. absurd (told_old c.in_ok-row.is_new _ c.in_ok-row.ensures.added c.if-not-is_new.true e)

pub returns-then-not-is_new-clause-old : goal.returns-then-not-is_new-clause-old
returns-then-not-is_new-clause-old c = λ e. record { naming = refl; names = refl }

pub returns-clause-found : goal.returns-clause-found
returns-clause-found c = c.name_row.ensures.found ∙ c.in_ok-row.ensures.keys

pub returns-clause-here : goal.returns-clause-here
returns-clause-here c = ap (λ (l : List ℕ). slice_get l c.in_ok-row.row) c.name_row.ensures.found ∙ here_is c.insert_full.new.self.keys c.in_ok-row.row c.args.shape c.in_ok-row.ensures.stored

pub returns-clause-new : goal.returns-clause-new
returns-clause-new c = λ e.
    let h = c.in_ok-name_row.ensures.named in
    record { new = h.new; is = h.is; given = h.given; avoided = h.avoided; names = h.names }

pub returns-clause-old : goal.returns-clause-old
returns-clause-old c = λ e. absurd (told_new c.in_ok-row.is_new _ c.in_ok-row.ensures.added c.if-not-is_new.false e)

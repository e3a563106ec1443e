-- Brackets that begin with a given one: behind it, nothing asks which one that was.
use Rattle.std.proofs.Common.{◌≡◌, ◌==◌, true, false, List, [], ◌∷◌, refl, ap, ◌∙◌, inl, inr}
use Rattle.std.proofs.lemmas.Bool.{cases_Bool}
use Rattle.ir_lexer.specs.Ahead.{Located}
use Rattle.ir_terminals.specs.PhraseRows.Row.{Reading, Done, Bad, TokenMove, On, Ends, Stops, begins, run_machine}
use Rattle.ir_terminals.specs.Brackets.{is_same, closed, step_by, role, begun_step, matched_row, any_matched_row}
use Rattle.ir_terminals.specs.Role.{class, terminal}
use Rattle.ir_terminals.specs.Terminal.{code}
use Rattle.ir_terminals.specs.declared.brackets.Bracket.{Bracket}
use Rattle.ir_terminals.specs.declared.brackets.Role.{Role}
use Rattle.ir_terminals.specs.declared.brackets.Role.TheVariants as roles
use Rattle.ir_terminals.specs.declared.terminal.Terminal.{Terminal}

begun : Terminal → List Bracket → List Located → Reading Located (Unit {0})
begun opening unclosed ts = run_machine (λ unclosed t. begun_step opening unclosed (terminal t.token)) unclosed ts

plain : List Bracket → List Located → Reading Located (Unit {0})
plain unclosed ts = run_machine (λ unclosed t. step_by unclosed (role (terminal t.token))) unclosed ts

next_begun : Terminal → Located → List Located → TokenMove (List Bracket) (Unit {0}) → Reading Located (Unit {0})
next_begun opening t ts m = elim m [ On unclosed ↦ begun opening unclosed ts | Ends a ↦ Done a ts | Stops ↦ Bad (t ∷ ts) ]

next_plain : Located → List Located → TokenMove (List Bracket) (Unit {0}) → Reading Located (Unit {0})
next_plain t ts m = elim m [ On unclosed ↦ plain unclosed ts | Ends a ↦ Done a ts | Stops ↦ Bad (t ∷ ts) ]

Same : Terminal → List Located → Type 0
Same opening ts = (b : Bracket) (bs : List Bracket) → begun opening (b ∷ bs) ts ≡ plain (b ∷ bs) ts

closing : (opening : Terminal) (t : Located) (ts : List Located) (bs : List Bracket) → Same opening ts → next_begun opening t ts (closed bs) ≡ next_plain t ts (closed bs)
unfolding Same next_begun next_plain
closing opening t ts [] again = refl
closing opening t ts (b ∷ bs) again = again b bs

turn : (opening : Terminal) (t : Located) (ts : List Located) (b : Bracket) (bs : List Bracket) (r : Role) → Same opening ts → next_begun opening t ts (step_by (b ∷ bs) r) ≡ next_plain t ts (step_by (b ∷ bs) r)
unfolding Same next_begun next_plain
turn opening t ts b bs (roles.Opens k) again = again k (b ∷ bs)
turn opening t ts b bs roles.Neither again = again b bs
turn opening t ts b bs (roles.Closes k) again = elim (cases_Bool (is_same b k)) [
  | inl e ↦ rw e (closing opening t ts bs again)
  | inr e ↦ rw e refl
]

inside : (opening : Terminal) (ts : List Located) → Same opening ts
unfolding Same begun plain next_begun next_plain
inside opening [] b bs = refl
inside opening (t ∷ ts) b bs = turn opening t ts b bs (role (terminal t.token)) (inside opening ts)

first_turn : (opening : Terminal) (t : Located) (ts : List Located) (r : Role) → next_begun opening t ts (step_by [] r) ≡ next_plain t ts (step_by [] r)
unfolding Same next_begun next_plain
first_turn opening t ts (roles.Opens k) = inside opening ts k []
first_turn opening t ts (roles.Closes k) = refl
first_turn opening t ts roles.Neither = refl

begins_so : (opening x : Terminal) → (code x == code opening) ≡ true → begun_step opening [] x ≡ step_by [] (role x)
begins_so opening x e = rw e refl

-- where the bracket is next
pub opened_so : (opening : Terminal) (ts : List Located) → begins class (code opening ∷ []) ts ≡ true → (matched_row opening).run ts ≡ any_matched_row.run ts
unfolding begun plain next_begun next_plain
opened_so opening [] h = refl
opened_so opening (t ∷ ts) h = elim (cases_Bool (code (terminal t.token) == code opening)) [
  | inl e ↦ ap (next_begun opening t ts) (begins_so opening (terminal t.token) e) ∙ first_turn opening t ts (role (terminal t.token))
  | inr e ↦ absurd (let f : false ≡ true = rw e at h in cc)
]

-- One more part of a list behind commas.
use Rattle.std.proofs.Common.{◌≡◌, ℕ, zero, suc, ◌<◌, Bool, true, false, cond, List, [], ◌∷◌, ◌++◌, length, map, refl, inl, inr, sym, ap, ◌∙◌, arith}
use Rattle.std.proofs.lemmas.List.{map-append}
use Rattle.std.proofs.lemmas.Bool.{cases_Bool}
use Rattle.ir_base.specs.declared.place.Place.{Place}
use Rattle.ir_lexer.specs.Ahead.{Located}
use Rattle.ir_terminals.specs.PhraseRows.Row.{Row, Reading, Done, Bad, bind, apart, begins, mapped, alt, labelled, keep_second, loop, run_loop, many}
use Rattle.ir_terminals.specs.PhraseRows.Reads.{Reads}
use Rattle.ir_terminals.proofs.OnPhraseRows.Loop.{loop_step_at, loop_next}
use Rattle.ir_terminals.proofs.OnPhraseRows.Repeated.{with_front, many_next}
use Rattle.ir_terminals.proofs.OnPhraseRows.Values.{read_less}
use Rattle.ir_terminals.specs.declared.limits.Limits.{Limits}
use Rattle.ir_terminals.specs.declared.terminal.Terminal.TheVariants as terminal
use Rattle.ir_terminals.specs.Role.{class}
use Rattle.ir_terminals.specs.Terminal.{code}
use Rattle.ir_terminals.specs.Tokens.{word}
use Rattle.ir_phrases.specs.Constants.Tree.{TypeTree}
use Rattle.ir_phrases.specs.Constants.Types.{type_row}
use Rattle.ir_phrases.specs.Instructions.Dropped.{attachment_row, attachments_core, attachments_row, comma_shape}
use Rattle.ir_phrases.specs.Instructions.Tails.{ListedParts, listed_step, listed_core, listed_row, part_shape, part_begins_row, part_ahead_row}
use Rattle.ir_phrases.specs.Instructions.Calls.{signature_step}
use Rattle.ir_phrases.proofs.OnInstructions.TailsGrammar.{reads_comma_part, reads_listed_step}
use Rattle.ir_phrases.proofs.OnInstructions.CallsGrammar.{reads_signature_step}

-- a row reads the same under the same limits
at_limits : {A : Type 0} (row : Limits → Row Located A) (limits here : Limits) (ts rest : List Located) (a : A) → here ≡ limits → (row here).run ts ≡ Done a rest → (row limits).run ts ≡ Done a rest
at_limits row limits here ts rest a h f = rw h at f

-- a phrase behind a comma
pub behind_comma_read : {A : Type 0} (row : Limits → Row Located A) (limits here : Limits) (a : A) (place : Place) (ts mid rest : List Located) → here ≡ limits → (word terminal.Comma).run ts ≡ Done place mid → (row here).run mid ≡ Done a rest → (keep_second (word terminal.Comma) (row limits)).run ts ≡ Done a rest
behind_comma_read row limits here a place ts mid rest h e f = rw e (at_limits row limits here mid rest a h f)

-- one more of any number of phrases
pub many_moved : {X A : Type 0} (row : Limits → Row Located A) (view : X → A) → ((limits : Limits) → Reads class (row limits) (row limits).shape) → ((limits : Limits) → apart (row limits).shape.more (row limits).shape.first ≡ true) → ((limits : Limits) → (row limits).shape.empty ≡ false) → (limits later : Limits) (xs ys : List X) (x : X) (ts rest : List Located) (all : Reading Located (List A)) → later ≡ limits → ys ≡ xs ++ (x ∷ []) → begins class (row limits).shape.first ts ≡ true → (row limits).run ts ≡ Done (view x) rest → with_front (map view xs) ((many class (row limits)).run ts) ≡ all → with_front (map view ys) ((many class (row later)).run rest) ≡ all
many_moved row view reads ok some limits later xs ys x ts rest all l e b f h =
    rw l (rw e (rw (map-append view xs (x ∷ [])) (sym (many_next class (reads limits) (ok limits) (some limits) (map view xs) (view x) ts rest b f) ∙ h)))

-- the parts of a loop that has ended
abbrev parts_read : {A : Type 0} → Reading Located (ListedParts A) → Reading Located (List A)
parts_read x = bind x (λ s rest. Done s.0 rest)

module _ {A : Type 0} (p : Row Located A) (parts : List A) where
  -- these parts, where metadata was read
  abbrev as_closed : Reading Located (Unit {0}) → Reading Located (ListedParts A)
  as_closed x = bind x (λ u rest. Done (parts, true) rest)

  abbrev closed_loop : ℕ → List Located → Reading Located (ListedParts A)
  closed_loop n ts = run_loop class comma_shape (listed_step p) n (parts, true) ts

  abbrev metadata_loop : ℕ → Unit {0} → List Located → Reading Located (Unit {0})
  metadata_loop n u ts = run_loop class comma_shape (λ v. keep_second (word terminal.Comma) attachment_row) n u ts

  closed_metadata : (n : ℕ) (x : Reading Located (Unit {0})) → ((u : Unit {0}) (ts : List Located) → closed_loop n ts ≡ as_closed (metadata_loop n u ts)) → bind (as_closed x) (λ m rest. run_loop class comma_shape (listed_step p) n m rest) ≡ as_closed (bind x (λ u rest. metadata_loop n u rest))
  closed_metadata n (Done u rest) ih = ih u rest
  closed_metadata n (Bad rest) ih = refl

  closed_comma : (n : ℕ) (x : Reading Located Place) → ((u : Unit {0}) (ts : List Located) → closed_loop n ts ≡ as_closed (metadata_loop n u ts)) → bind (bind x (λ place mid. as_closed (attachment_row.run mid))) (λ m rest. run_loop class comma_shape (listed_step p) n m rest) ≡ as_closed (bind (bind x (λ place mid. attachment_row.run mid)) (λ u rest. metadata_loop n u rest))
  closed_comma n (Done place mid) ih = closed_metadata n (attachment_row.run mid) ih
  closed_comma n (Bad rest) ih = refl

  closed_behind : (n : ℕ) (u : Unit {0}) (ts : List Located) → closed_loop n ts ≡ as_closed (metadata_loop n u ts)
  closed_behind zero u ts = refl
  closed_behind (suc n) u ts = elim (cases_Bool (begins class comma_shape.first ts)) [
    | inl b ↦ rw b (closed_comma n ((word terminal.Comma).run ts) (closed_behind n))
    | inr b ↦ rw b refl
  ]

  -- metadata alone follows from then on
  closed_read : (ts : List Located) → (loop class comma_shape (listed_step p) (parts, true)).run ts ≡ as_closed (attachments_row.run ts)
  unfolding attachments_core
  closed_read ts = closed_behind (length ts) tt ts

  -- what stands behind these parts, where another one follows and where none does
  abbrev pub listed_behind : Bool → List Located → Reading Located (List A)
  listed_behind more mid = cond more (bind (p.run mid) (λ a rest. (listed_row p (parts ++ (a ∷ []))).run rest)) (Done parts mid)

  -- the list behind these parts, by whether another one follows
  abbrev pub listed_on : List Located → Reading Located (List A)
  listed_on ts = bind (part_ahead_row.run ts) listed_behind

  abbrev steps_behind : Reading Located (ListedParts A) → Reading Located (List A)
  steps_behind x = parts_read (bind x (λ s rest. (loop class comma_shape (listed_step p) s).run rest))

  metadata_all : (x : Reading Located (Unit {0})) → parts_read (as_closed x) ≡ bind (bind x (λ u rest. Done false rest)) listed_behind
  metadata_all (Done u rest) = refl
  metadata_all (Bad rest) = refl

  on_metadata : (x : Reading Located (Unit {0})) → steps_behind (as_closed x) ≡ bind (bind (bind x (λ u rest. attachments_row.run rest)) (λ u rest. Done false rest)) listed_behind
  on_metadata (Done u rest) = ap parts_read (closed_read rest) ∙ metadata_all (attachments_row.run rest)
  on_metadata (Bad rest) = refl

  on_part : (x : Reading Located A) → steps_behind (bind x (λ a rest. Done (parts ++ (a ∷ []), false) rest)) ≡ bind x (λ a rest. (listed_row p (parts ++ (a ∷ []))).run rest)
  unfolding listed_core
  on_part (Done a rest) = refl
  on_part (Bad rest) = refl

  behind_comma : (mid : List Located) → steps_behind ((alt class (mapped (λ u. (parts, true)) attachment_row) (mapped (λ a. (parts ++ (a ∷ []), false)) p)).run mid) ≡ bind (part_begins_row.run mid) listed_behind
  behind_comma mid = elim (cases_Bool (begins class (code terminal.MetaName ∷ []) mid)) [
    | inl d ↦ rw d (on_metadata (attachment_row.run mid))
    | inr d ↦ rw d (on_part (p.run mid))
  ]

  on_comma : (x : Reading Located Place) → steps_behind (bind x (λ place mid. (alt class (mapped (λ u. (parts, true)) attachment_row) (mapped (λ a. (parts ++ (a ∷ []), false)) p)).run mid)) ≡ bind (bind x (λ place mid. part_begins_row.run mid)) listed_behind
  on_comma (Done place mid) = behind_comma mid
  on_comma (Bad rest) = refl

  step_on : (ts : List Located) → parts_read (cond (begins class comma_shape.first ts) (bind ((listed_step p (parts, false)).run ts) (λ s rest. (loop class comma_shape (listed_step p) s).run rest)) (Done (parts, false) ts)) ≡ listed_on ts
  step_on ts = elim (cases_Bool (begins class comma_shape.first ts)) [
    | inl b ↦ rw b (on_comma ((word terminal.Comma).run ts))
    | inr b ↦ rw b refl
  ]

part_ahead_less_if : (b : Bool) (ts mid : List Located) → cond b ((keep_second (word terminal.Comma) part_begins_row).run ts) (Done false ts) ≡ Done true mid → length mid < length ts
part_ahead_less_if true ts mid e = read_less reads_comma_part refl ts mid true e
part_ahead_less_if false ts mid e = absurd cc

part_ahead_less : (ts mid : List Located) → part_ahead_row.run ts ≡ Done true mid → length mid < length ts
part_ahead_less ts mid e = part_ahead_less_if (begins class comma_shape.first ts) ts mid e

module _ {A : Type 0} (first : List ℕ) (core : Limits → Row Located A) (reads : (limits : Limits) → Reads class (labelled (part_shape first) (core limits)) (part_shape first)) (ok : apart (code terminal.MetaName ∷ []) first ≡ true) where
  -- the list is read so
  pub listed_is : (limits : Limits) (parts : List A) (ts : List Located) → (listed_row (labelled (part_shape first) (core limits)) parts).run ts ≡ listed_on (labelled (part_shape first) (core limits)) parts ts
  unfolding listed_core
  listed_is limits parts ts =
      ap parts_read (loop_step_at class comma_shape (listed_step (labelled (part_shape first) (core limits))) (reads_listed_step first (core limits) (reads limits) ok) refl refl (parts, false) ts)
      ∙ step_on (labelled (part_shape first) (core limits)) parts ts

  -- one more part
  pub listed_part : (limits here : Limits) (parts more : List A) (a : A) (follows : Bool) (ts mid rest : List Located) → here ≡ limits → more ≡ parts ++ (a ∷ []) → follows ≡ true → part_ahead_row.run ts ≡ Done follows mid → (core here).run mid ≡ Done a rest → listed_on (labelled (part_shape first) (core limits)) parts ts ≡ listed_on (labelled (part_shape first) (core limits)) more rest
  listed_part limits here parts more a follows ts mid rest h m t e f =
      rw m
      (ap (λ (x : Reading Located Bool). bind x (listed_behind (labelled (part_shape first) (core limits)) parts)) (rw t at e)
      ∙ (ap (λ (x : Reading Located A). bind x (λ b behind. (listed_row (labelled (part_shape first) (core limits)) (parts ++ (b ∷ []))).run behind)) (at_limits core limits here mid rest a h f)
      ∙ listed_is limits (parts ++ (a ∷ [])) rest))

  pub part_less : (here : Limits) (a : A) (follows : Bool) (ts mid rest : List Located) → follows ≡ true → part_ahead_row.run ts ≡ Done follows mid → (core here).run mid ≡ Done a rest → length rest < length ts
  part_less here a follows ts mid rest t e f =
      let comma : length mid < length ts = part_ahead_less ts mid (rw t at e) in
      let part : length rest < length mid = read_less (reads here) refl mid rest a f in
      omega (arith, comma, part)

type_read : (limits : Limits) (types : List TypeTree) (closed : Bool) (t : TypeTree) (place : Place) (ts mid rest : List Located) → (word terminal.Comma).run ts ≡ Done place mid → closed ≡ false → begins class (code terminal.Dots ∷ []) mid ≡ false → (type_row limits).run mid ≡ Done t rest → (signature_step limits (types, closed)).run ts ≡ Done (types ++ (t ∷ []), false) rest
type_read limits types true t place ts mid rest e d g f = absurd cc
type_read limits types false t place ts mid rest e d g f = rw e (rw g (rw f refl))

-- one more type of a signature
pub signature_type : (limits here later : Limits) (types more : List TypeTree) (closed : Bool) (t : TypeTree) (place : Place) (ts mid rest : List Located) → here ≡ limits → later ≡ limits → more ≡ types ++ (t ∷ []) → begins class comma_shape.first ts ≡ true → (word terminal.Comma).run ts ≡ Done place mid → closed ≡ false → begins class (code terminal.Dots ∷ []) mid ≡ false → (type_row here).run mid ≡ Done t rest → (loop class comma_shape (signature_step limits) (types, closed)).run ts ≡ (loop class comma_shape (signature_step later) (more, closed)).run rest
signature_type limits here later types more true t place ts mid rest h l m b e d g f = absurd cc
signature_type limits here later types more false t place ts mid rest h l m b e d g f =
    rw (l, m) (loop_next class (reads_signature_step limits) refl refl (types, false) (types ++ (t ∷ []), false) ts rest b (type_read limits types false t place ts mid rest e d g (at_limits type_row limits here mid rest t h f)))

pub type_less : (limits here : Limits) (types : List TypeTree) (closed : Bool) (t : TypeTree) (place : Place) (ts mid rest : List Located) → here ≡ limits → (word terminal.Comma).run ts ≡ Done place mid → closed ≡ false → begins class (code terminal.Dots ∷ []) mid ≡ false → (type_row here).run mid ≡ Done t rest → length rest < length ts
type_less limits here types closed t place ts mid rest h e d g f =
    read_less (reads_signature_step limits (types, closed)) refl ts rest (types ++ (t ∷ []), false) (type_read limits types closed t place ts mid rest e d g (at_limits type_row limits here mid rest t h f))

-- The inputs one behind the other: what was read so far, and what is to come.
use Rattle.std.proofs.Common.{◌≡◌, ◌⊎◌, inl, inr, ℕ, suc, zero, ◌+◌, ◌<◌, ◌≤◌, Bool, true, false, ◌||◌, List, [], ◌∷◌, ◌++◌, length, drop, get_or, Option, Some, None, Result, Ok, Err, refl, sym, ap, ◌∙◌, arith, append_assoc, add-one, drop-cons}
use Rattle.std.proofs.lemmas.List.{append-nil}
use Rattle.std.proofs.lemmas.Grind.{common_steps}
use Rattle.std.specs.Prelude.{IfSome}
use Rattle.std.specs.Bool.{MatchBool}
use Rattle.std.specs.List.{IsAmong}
use Rattle.std.proofs.lemmas.Bool.{false_from_ne_true}
use Rattle.ir_base.specs.Outside.{Lost, LostUpTo}
use Rattle.ir_base.specs.Files.{Named, IsMissing, IsOver, ReadsFrom}
use Rattle.command_line.specs.Options.{is_dash}
use Rattle.tool_output.specs.declared.ends.ended.Ended.{Ended}
use Rattle.tool_output.specs.declared.ends.ended.Ended.TheVariants.{CannotRead, InputTooLarge, Memory}
use Rattle.tool_cli.specs.Inputs.{content, has_stdin, stdin_after, Tells, TellsAll, input_read, with_text, read_on, texts_read}
use Rattle.tool_cli.specs.Causes.{IsEmptied, HasRead, GaveUp, MayPassTogether, Refuses, RefusesOne}
use Rattle.tool_cli.specs.Reads.{LeavesFiles}
use Rattle.tool_cli.specs.World.{found_input}
use Rattle.tool_cli.proofs.Contents.{content_read, input_ok, input_over, left_told, refusal_told}
use Rattle.tool_cli.specs.declared.inputs.TheConstants.{LARGEST, LARGEST_TOGETHER}

-- these texts before others
abbrev pub onto : List (List ℕ) → Result (List (List ℕ)) Ended → Result (List (List ℕ)) Ended
onto texts (Ok others) = Ok (texts ++ others)
onto texts (Err ended) = Err ended

onto_with : (texts : List (List ℕ)) (text : List ℕ) (others : Result (List (List ℕ)) Ended) → onto texts (with_text text others) ≡ onto (texts ++ text ∷ []) others
onto_with texts text (Ok others) = ap Ok (sym (append_assoc texts (text ∷ []) others))
onto_with texts text (Err ended) = refl

pub onto_none : (others : Result (List (List ℕ)) Ended) → others ≡ onto [] others
onto_none (Ok others) = refl
onto_none (Err ended) = refl

-- one more text
pub turn_ok : (held : Named) (now name : List ℕ) (total : ℕ) (texts : List (List ℕ)) (text : List ℕ) (names others : List (List ℕ)) → names ≡ name ∷ others → input_read held now total name ≡ Ok text → onto texts (texts_read held now total names) ≡ onto (texts ++ text ∷ []) (texts_read held (stdin_after now name) (total + length text) others)
turn_ok held now name total texts text names others e read =
    ap (λ ns. onto texts (texts_read held now total ns)) e
    ∙ ap (λ r. onto texts (read_on r (λ t. texts_read held (stdin_after now name) (total + length t) others))) read
    ∙ onto_with texts text (texts_read held (stdin_after now name) (total + length text) others)

-- a refusal
pub turn_err : (held : Named) (now name : List ℕ) (total : ℕ) (texts : List (List ℕ)) (ended : Ended) (names others : List (List ℕ)) → names ≡ name ∷ others → input_read held now total name ≡ Err ended → onto texts (texts_read held now total names) ≡ Err ended
turn_err held now name total texts ended names others e read =
    ap (λ ns. onto texts (texts_read held now total ns)) e
    ∙ ap (λ r. onto texts (read_on r (λ t. texts_read held (stdin_after now name) (total + length t) others))) read

-- What has become of standard input: it is as it was, and of the names the same are to come as at first; or it
-- was an input.
pub data Stdin {A : Type 0} (names others : List (List ℕ)) (before now : A) (left_before left_now : Option (List ℕ)) : Type 0 where
  Unread : now ≡ before → left_now ≡ left_before → has_stdin others ≡ has_stdin names → Stdin names others before now left_before left_now
  Emptied : has_stdin names ≡ true → IsEmptied left_now → LostUpTo (LARGEST + 1) left_before left_now → Stdin names others before now left_before left_now

-- the outside still tells what the next input holds
tells_by : (dash : Bool) (contents contents_now : Option Named) (left left_now : Option (List ℕ)) (held : Named) (stdin now : List ℕ) → contents_now ≡ contents → (left ≡ Some stdin → left_now ≡ Some now) → MatchBool dash (left ≡ Some stdin) (contents ≡ Some held) → MatchBool dash (left_now ≡ Some now) (contents_now ≡ Some held)
tells_by true contents contents_now left left_now held stdin now e go told = go told
tells_by false contents contents_now left left_now held stdin now e go told = e ∙ told

pub tells_now : (names : List (List ℕ)) (name : List ℕ) (contents contents_now : Option Named) (left left_now : Option (List ℕ)) (held : Named) (stdin now : List ℕ) → IsAmong names name → contents_now ≡ contents → (left ≡ Some stdin → left_now ≡ Some now) → TellsAll names contents left held stdin → Tells contents_now left_now held now name
tells_now names name contents contents_now left left_now held stdin now among e go told = tells_by (is_dash name) contents contents_now left left_now held stdin now e go (told name among)

-- standard input among names
among_by : (names : List (List ℕ)) (i : ℕ) (name : List ℕ) → i < length names → name ≡ get_or names i name → is_dash name ≡ true → has_stdin names ≡ true
among_by [] i name h e dash = absurd (omega arith)
among_by (n ∷ names) zero name h e dash = ap (λ b. b || has_stdin names) (ap is_dash (sym e) ∙ dash)
among_by (n ∷ names) (suc i) name h e dash = or_true (is_dash n) (has_stdin names) (among_by names i name (omega arith) e dash)
  where
    or_true : (a b : Bool) → b ≡ true → (a || b) ≡ true
    or_true true b e = refl
    or_true false b e = e

pub stdin_among : (names : List (List ℕ)) (name : List ℕ) → IsAmong names name → is_dash name ≡ true → has_stdin names ≡ true
stdin_among names name among dash = among_by names among.0 name among.1.0 among.1.1 dash

-- standard input was an input, and none of its bytes came back
lost_from : (limit : ℕ) (before mid now : Option (List ℕ)) → IsEmptied mid → LostUpTo limit before mid → LostUpTo limit mid now → LostUpTo limit before now
lost_from limit before None None none first second = first
lost_from limit before None (Some now) none first second = absurd (let h = second.lost in cc)
lost_from limit before (Some mid) None none first second = absurd (let h = second.lost in cc)
lost_from limit before (Some mid) (Some now) none first second = record {
  front = first.front;
  few = first.few;
  lost = first.lost ∙ ap (λ rest. Some (first.front ++ rest)) (same_empty mid now second.front none (some_same second.lost));
}
  where
    some_same : {a b : List ℕ} → Some a ≡ Some b → a ≡ b
    some_same e = cc

    none_behind : (front now : List ℕ) → [] ≡ front ++ now → [] ≡ now
    none_behind [] now e = e
    none_behind (x ∷ front) now e = absurd (let h = e in cc)

    same_empty : (mid now front : List ℕ) → mid ≡ [] → mid ≡ front ++ now → mid ≡ now
    same_empty mid now front none e = none ∙ none_behind front now (sym none ∙ e)

pub lost_by : {A : Type 0} (names others : List (List ℕ)) (before mid : A) (left_before left_mid left_now : Option (List ℕ)) → Stdin names others before mid left_before left_mid → LostUpTo (LARGEST + 1) left_mid left_now → LostUpTo (LARGEST + 1) left_before left_now
lost_by names others before mid left_before left_mid left_now (Unread same left same_names) lost = rw left at lost
lost_by names others before mid left_before left_mid left_now (Emptied has none first) lost = lost_from (LARGEST + 1) left_before left_mid left_now none first lost

nothing_lost : (limit : ℕ) (left : Option (List ℕ)) → LostUpTo limit left left
nothing_lost limit None = record { front = []; few = omega arith; lost = refl }
nothing_lost limit (Some left) = record { front = []; few = omega arith; lost = refl }

pub lost_so_far : {A : Type 0} (names others : List (List ℕ)) (before now : A) (left_before left_now : Option (List ℕ)) → Stdin names others before now left_before left_now → LostUpTo (LARGEST + 1) left_before left_now
lost_so_far names others before now left_before left_now (Unread same left same_names) = rw left (nothing_lost (LARGEST + 1) left_before)
lost_so_far names others before now left_before left_now (Emptied has none lost) = lost

-- the files were only read, and so they are by one more input
pub files_by : (before mid now : Option Named) (ro rm rn wo wm wn : ℕ) → mid ≡ before → rm ≡ ro → wm ≡ wo → LeavesFiles mid now rm rn wm wn → LeavesFiles before now ro rn wo wn
files_by before mid now ro rm rn wo wm wn contents reads writes last = record {
  contents = last.contents ∙ contents;
  later = omega (arith, reads, last.later);
  writes = last.writes ∙ writes;
}

pub unread_so_far : {A : Type 0} (names others : List (List ℕ)) (before now : A) (left_before left_now : Option (List ℕ)) → Stdin names others before now left_before left_now → has_stdin names ≡ false → now ≡ before
unread_so_far names others before now left_before left_now (Unread same left same_names) h = same
unread_so_far names others before now left_before left_now (Emptied has none lost) h = absurd (let e = sym has ∙ h in cc)

pub emptied_at_end : {A : Type 0} (names : List (List ℕ)) (before now : A) (left_before left_now : Option (List ℕ)) → Stdin names [] before now left_before left_now → has_stdin names ≡ true → IsEmptied left_now
emptied_at_end names before now left_before left_now (Unread same left same_names) h = absurd (let e = same_names ∙ h in cc)
emptied_at_end names before now left_before left_now (Emptied has none lost) h = none

-- one more input
step_by : {A : Type 0} (dash : Bool) (names others more : List (List ℕ)) (name : List ℕ) (before mid now : A) (left_before left_mid left_now : Option (List ℕ)) → is_dash name ≡ dash → others ≡ name ∷ more → (dash ≡ true → has_stdin names ≡ true) → (dash ≡ true → IsEmptied left_now) → (dash ≡ false → now ≡ mid) → (dash ≡ false → left_now ≡ left_mid) → LostUpTo (LARGEST + 1) left_mid left_now → Stdin names others before mid left_before left_mid → Stdin names more before now left_before left_now
step_by true names others more name before mid now left_before left_mid left_now is e has none same left lost stdin = Emptied (has refl) (none refl) (lost_by names others before mid left_before left_mid left_now stdin lost)
step_by false names others more name before mid now left_before left_mid left_now is e has none same left lost (Unread was was_left was_names) =
    Unread (same refl ∙ was) (left refl ∙ was_left) (ap (λ b. b || has_stdin more) (sym is) ∙ ap has_stdin (sym e) ∙ was_names)
step_by false names others more name before mid now left_before left_mid left_now is e has none same left lost (Emptied was_has was_none was_lost) =
    Emptied was_has (rw (left refl) was_none) (lost_by names others before mid left_before left_mid left_now (Emptied was_has was_none was_lost) lost)

pub stdin_step : {A : Type 0} (names others more : List (List ℕ)) (name : List ℕ) (before mid now : A) (left_before left_mid left_now : Option (List ℕ)) → IsAmong names name → others ≡ name ∷ more → (is_dash name ≡ true → IsEmptied left_now) → (is_dash name ≡ false → now ≡ mid) → (is_dash name ≡ false → left_now ≡ left_mid) → LostUpTo (LARGEST + 1) left_mid left_now → Stdin names others before mid left_before left_mid → Stdin names more before now left_before left_now
stdin_step names others more name before mid now left_before left_mid left_now among e none same left lost stdin =
    step_by (is_dash name) names others more name before mid now left_before left_mid left_now refl e (stdin_among names name among) none same left lost stdin

-- Why an input was refused, seen from the start.
large_by : (dash : Bool) (contents contents_now : Option Named) (left left_now : Option (List ℕ)) (name : List ℕ) → contents_now ≡ contents → (IfSome left_now (λ bytes. LARGEST < length bytes) → IfSome left (λ bytes. LARGEST < length bytes)) → MatchBool dash (IfSome left_now (λ bytes. LARGEST < length bytes)) (IfSome contents_now (λ files. IsOver LARGEST files name)) → MatchBool dash (IfSome left (λ bytes. LARGEST < length bytes)) (IfSome contents (λ files. IsOver LARGEST files name))
large_by true contents contents_now left left_now name e go large = go large
large_by false contents contents_now left left_now name e go large = rw e at large

over_before : (limit : ℕ) (left left_now : Option (List ℕ)) → IsEmptied left_now → LostUpTo limit left left_now → IfSome left_now (λ bytes. LARGEST < length bytes) → IfSome left (λ bytes. LARGEST < length bytes)
over_before limit None left_now none lost large = tt
over_before limit (Some left) None none lost large = absurd (let h = lost.lost in cc)
over_before limit (Some left) (Some now) none lost large = absurd (omega (arith, ap length none))

over_at_first : {A : Type 0} (names others : List (List ℕ)) (before now : A) (left left_now : Option (List ℕ)) → Stdin names others before now left left_now → IfSome left_now (λ bytes. LARGEST < length bytes) → IfSome left (λ bytes. LARGEST < length bytes)
over_at_first names others before now left left_now (Unread same e same_names) large = rw e at large
over_at_first names others before now left left_now (Emptied has none lost) large = over_before (LARGEST + 1) left left_now none lost large

unread_by : (dash : Bool) (contents contents_now : Option Named) (i f : Type 0) (name : List ℕ) → contents_now ≡ contents → MatchBool dash i (f ⊎ IsMissing contents_now name) → MatchBool dash i (f ⊎ IsMissing contents name)
unread_by dash contents contents_now i f name e why = rw e at why

pub refused_one : {A : Type 0} (names others : List (List ℕ)) (name : List ℕ) (before now : A) (contents contents_now : Option Named) (left left_now : Option (List ℕ)) (i f : Type 0) (ended : Ended) → IsAmong names name → contents_now ≡ contents → Stdin names others before now left left_now → Refuses (found_input contents_now left_now i f) name ended → RefusesOne (found_input contents left i f) names ended
refused_one names others name before now contents contents_now left left_now i f (CannotRead other) among e stdin why =
    rw why.0 (among, unread_by (is_dash name) contents contents_now i f name e why.1)
refused_one names others name before now contents contents_now left left_now i f (InputTooLarge other limit) among e stdin why =
    rw (why.0, why.1) (among, inl (refl, large_by (is_dash name) contents contents_now left left_now name e (over_at_first names others before now left left_now stdin) why.2))
refused_one names others name before now contents contents_now left left_now i f Memory among e stdin why = tt
refused_one names others name before now contents contents_now left left_now i f ended among e stdin why = absurd why

-- The turn at the name with this index.

pub next_name : (names : List (List ℕ)) (i : ℕ) (name : List ℕ) → i < length names → name ≡ get_or names i name → drop i names ≡ name ∷ drop (i + 1) names
next_name names i name h e = rw (add-one, drop-cons names i name) (ap (λ n. n ∷ drop (suc i) names) (sym e))

-- what the inputs give is these texts and then what the rest of them give
abbrev pub GoesOn : List (List ℕ) → ℕ → Option (List ℕ) → Option (List ℕ) → Named → List ℕ → ℕ → List (List ℕ) → Type 0
GoesOn names i left left_now held stdin total texts =
    (now : List ℕ) × ((left ≡ Some stdin → left_now ≡ Some now) × (texts_read held stdin 0 names ≡ onto texts (texts_read held now total (drop i names))))

told_by : (names texts : List (List ℕ)) (i : ℕ) (held : Named) (stdin now name : List ℕ) (total : ℕ) (ended : Ended) (p q : Type 0) → drop i names ≡ name ∷ drop (i + 1) names → texts_read held stdin 0 names ≡ onto texts (texts_read held now total (drop i names)) → (input_read held now total name ≡ Err ended) ⊎ GaveUp p q ended → (Err ended ≡ texts_read held stdin 0 names) ⊎ GaveUp p q ended
told_by names texts i held stdin now name total ended p q next whole (inl e) = inl (sym (whole ∙ turn_err held now name total texts ended (drop i names) (drop (i + 1) names) next e))
told_by names texts i held stdin now name total ended p q next whole (inr gave_up) = inr gave_up

pub told_refused : (names : List (List ℕ)) (i : ℕ) (name : List ℕ) (contents contents_now : Option Named) (left left_now : Option (List ℕ)) (held : Named) (stdin : List ℕ) (total : ℕ) (texts : List (List ℕ)) (ended : Ended) (p q : Type 0) → i < length names → name ≡ get_or names i name → contents_now ≡ contents → GoesOn names i left left_now held stdin total texts → TellsAll names contents left held stdin → Refuses (found_input contents_now left_now p q) name ended → (Err ended ≡ texts_read held stdin 0 names) ⊎ GaveUp p q ended
told_refused names i name contents contents_now left left_now held stdin total texts ended p q h e same on tells why =
    told_by names texts i held stdin on.0 name total ended p q (next_name names i name h e) on.1.1
    (refusal_told contents_now left_now held on.0 name total p q ended (tells_now names name contents contents_now left left_now held stdin on.0 (i, (h, e)) same on.1.0 tells) why)

content_now : (names : List (List ℕ)) (i : ℕ) (name : List ℕ) (contents contents_now : Option Named) (left left_now left_next : Option (List ℕ)) (held : Named) (stdin now text : List ℕ) → i < length names → name ≡ get_or names i name → contents_now ≡ contents → (left ≡ Some stdin → left_now ≡ Some now) → TellsAll names contents left held stdin → HasRead contents_now left_now left_next name text → content held now name ≡ Some text
content_now names i name contents contents_now left left_now left_next held stdin now text h e same go tells read =
    content_read contents_now left_now left_next held now name text (tells_now names name contents contents_now left left_now held stdin now (i, (h, e)) same go tells) read

pub told_over : (names : List (List ℕ)) (i : ℕ) (name : List ℕ) (contents contents_now : Option Named) (left left_now left_next : Option (List ℕ)) (held : Named) (stdin : List ℕ) (total : ℕ) (texts : List (List ℕ)) (text : List ℕ) (ended : Ended) (p q : Type 0) → i < length names → name ≡ get_or names i name → contents_now ≡ contents → GoesOn names i left left_now held stdin total texts → TellsAll names contents left held stdin → HasRead contents_now left_now left_next name text → LARGEST_TOGETHER < total + length text → (ended ≡ InputTooLarge name LARGEST_TOGETHER) ⊎ (ended ≡ Memory) → (Err ended ≡ texts_read held stdin 0 names) ⊎ GaveUp p q ended
told_over names i name contents contents_now left left_now left_next held stdin total texts text ended p q h e same on tells read over (inl is) =
    told_by names texts i held stdin on.0 name total ended p q (next_name names i name h e) on.1.1
    (inl (input_over held on.0 name text total (content_now names i name contents contents_now left left_now left_next held stdin on.0 text h e same on.1.0 tells read) read.few over ∙ ap (λ x. Err x) (sym is)))
told_over names i name contents contents_now left left_now left_next held stdin total texts text ended p q h e same on tells read over (inr none) = inr (rw none tt)

pub told_on : (names : List (List ℕ)) (i : ℕ) (name : List ℕ) (contents contents_now : Option Named) (left left_now left_next : Option (List ℕ)) (held : Named) (stdin : List ℕ) (total : ℕ) (texts texts_next : List (List ℕ)) (text bytes : List ℕ) → i < length names → name ≡ get_or names i name → contents_now ≡ contents → GoesOn names i left left_now held stdin total texts → TellsAll names contents left held stdin → HasRead contents_now left_now left_next name text → (is_dash name ≡ false → left_next ≡ left_now) → bytes ≡ text → total + length bytes ≤ LARGEST_TOGETHER → texts_next ≡ texts ++ text ∷ [] → GoesOn names (i + 1) left left_next held stdin (total + length bytes) texts_next
told_on names i name contents contents_now left left_now left_next held stdin total texts texts_next text bytes h e same on tells read kept is few more =
    let held_now = content_now names i name contents contents_now left left_now left_next held stdin on.0 text h e same on.1.0 tells read in
    let few_now : total + length text ≤ LARGEST_TOGETHER = rw is at few in
    rw (is, more) (
      stdin_after on.0 name,
      (
        λ told. left_told contents_now left_now left_next on.0 name text (on.1.0 told) read kept,
        on.1.1 ∙ turn_ok held on.0 name total texts text (drop i names) (drop (i + 1) names) (next_name names i name h e) (input_ok held on.0 name text total held_now read.few few_now),
      ),
    )

pub none_behind : (names : List (List ℕ)) (i : ℕ) → length names ≤ i → drop i names ≡ []
none_behind names i h = grind (arith, common_steps)

pub told_at_end : (names : List (List ℕ)) (i : ℕ) (left left_now : Option (List ℕ)) (held : Named) (stdin : List ℕ) (total : ℕ) (texts : List (List ℕ)) → length names ≤ i → GoesOn names i left left_now held stdin total texts → Ok texts ≡ texts_read held stdin 0 names
told_at_end names i left left_now held stdin total texts h on =
    sym (on.1.1 ∙ ap (λ ns. onto texts (texts_read held on.0 total ns)) (none_behind names i h) ∙ ap Ok (append-nil texts))

pub stdin_at_end : {A : Type 0} (names : List (List ℕ)) (i : ℕ) (before now : A) (left_before left_now : Option (List ℕ)) → length names ≤ i → Stdin names (drop i names) before now left_before left_now → has_stdin names ≡ true → IsEmptied left_now
stdin_at_end names i before now left_before left_now h stdin has = emptied_at_end names before now left_before left_now (rw (none_behind names i h) at stdin) has

emptied_by : (dash : Bool) (contents : Option Named) (left_before left_now : Option (List ℕ)) (name text : List ℕ) → MatchBool dash (Lost left_before left_now text × IsEmptied left_now) (ReadsFrom contents name text) → dash ≡ true → IsEmptied left_now
emptied_by true contents left_before left_now name text read e = read.1
emptied_by false contents left_before left_now name text read e = absurd (let h = e in cc)

pub stdin_on : {A : Type 0} (names : List (List ℕ)) (i : ℕ) (name text : List ℕ) (contents : Option Named) (before mid now : A) (left_before left_mid left_now : Option (List ℕ)) → i < length names → name ≡ get_or names i name → HasRead contents left_mid left_now name text → (is_dash name ≡ false → now ≡ mid) → (is_dash name ≡ false → left_now ≡ left_mid) → LostUpTo (LARGEST + 1) left_mid left_now → Stdin names (drop i names) before mid left_before left_mid → Stdin names (drop (i + 1) names) before now left_before left_now
stdin_on names i name text contents before mid now left_before left_mid left_now h e read same left lost stdin =
    stdin_step names (drop i names) (drop (i + 1) names) name before mid now left_before left_mid left_now (i, (h, e)) (next_name names i name h e)
    (emptied_by (is_dash name) contents left_mid left_now name text read.content) same left lost stdin

pub unread_on : {A : Type 0} (names : List (List ℕ)) (i : ℕ) (name : List ℕ) (before mid now : A) (left_before left_mid : Option (List ℕ)) → i < length names → name ≡ get_or names i name → (is_dash name ≡ false → now ≡ mid) → Stdin names (drop i names) before mid left_before left_mid → has_stdin names ≡ false → now ≡ before
unread_on names i name before mid now left_before left_mid h e same stdin none =
    same (false_from_ne_true (is_dash name) (λ dash. let has = sym (stdin_among names name (i, (h, e)) dash) ∙ none in absurd (let x = has in cc)))
    ∙ unread_so_far names (drop i names) before mid left_before left_mid stdin none

pub over_one : (names : List (List ℕ)) (name : List ℕ) (contents : Option Named) (left : Option (List ℕ)) (p q : Type 0) (ended : Ended) → IsAmong names name → MayPassTogether contents left names name → (ended ≡ InputTooLarge name LARGEST_TOGETHER) ⊎ (ended ≡ Memory) → RefusesOne (found_input contents left p q) names ended
over_one names name contents left p q ended among passed (inl is) = rw is (among, inr (refl, passed))
over_one names name contents left p q ended among passed (inr none) = rw none tt

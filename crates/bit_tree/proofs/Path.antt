-- The way through a stream, one entry or definition after another.
use Rattle.std.proofs.Common.{◌≡◌, ℕ, zero, suc, ◌+◌, ◌≤◌, Bool, false, List, [], ◌∷◌, ◌++◌, length, Option, Some, None, Ok, refl, sym, ap, ◌∙◌, arith, inl, inr, append_assoc}
use Rattle.bit_stream.specs.Bits.Cursor.{Cursor}
use Rattle.bit_stream.specs.declared.entry.Entry.{Entry}
use Rattle.bit_stream.specs.declared.entry.Entry.TheVariants.{Block, EndBlock, Record, End}
use Rattle.bit_stream.specs.Abbreviation.{AdmittedAbbreviation}
use Rattle.bit_stream.specs.Scope.{Scope}
use Rattle.bit_stream.specs.Entry.{StreamItem, id_at, has_blob_by, defined_at}
use Rattle.bit_tree.specs.Stream.{StreamTree, nothing, block, definition, values, next_id, Stands, Holds, none, of_block, of_definition, of_record, Shown, bare, entries, is_end}
use Rattle.bit_tree.specs.Pieces.{Piece, begun, ended, defines, holds, flat}
use Rattle.bit_tree.proofs.Leaving.{IsWide, Goes, depths, what_stands}

-- a record, by its abbreviation id, and what it holds
pub record IsRecord (s : Scope) (c : Cursor) (i : StreamItem) (n : ℕ) (ns : List ℕ) (ends : Bool) (bytes : List ℕ) : Type 0 where
  pub id : id_at s c ≡ n
  pub operands : i.operands ≡ ns
  pub has_blob : has_blob_by s (id_at s c) ≡ ends
  pub blob : i.blob ≡ bytes

abbrev pub Step : Scope → Cursor → Piece → StreamItem → Cursor → Type 0
Step s c (begun id width words) i d = Stands s c (Some (Block id)) i d × (i.scope.block.width ≡ width) × (i.scope.block.words ≡ words)
Step s c ended i d = Stands s c (Some EndBlock) i d
Step s c (defines id t) i d = Stands s c None i d × (defined_at s c ≡ Ok (t, d)) × (next_id s ≡ id)
Step s c (holds id code operands has_blob blob) i d = Stands s c (Some (Record code)) i d × IsRecord s c i id operands has_blob blob

block_holds : {s t u : Scope} {c d e f g : Cursor} {i j : StreamItem} {id width words : ℕ} {inside behind : StreamTree} → Step s c (begun id width words) i d → Holds i.scope d inside t e → Stands t e (Some EndBlock) j f → Holds j.scope f behind u g → Holds s c (block id width words inside behind) u g
block_holds first within last after = rw (← first.1, ← first.2) (of_block first.0 within last after)

definition_holds : {s u : Scope} {c d g : Cursor} {i : StreamItem} {id : ℕ} {t : AdmittedAbbreviation} {behind : StreamTree} → Step s c (defines id t) i d → Holds i.scope d behind u g → Holds s c (definition id t behind) u g
definition_holds first after = rw (← first.2) (of_definition first.0 first.1 after)

pub record_holds : {s u : Scope} {c d g : Cursor} {i : StreamItem} {id code : ℕ} {operands blob : List ℕ} {has_blob : Bool} {behind : StreamTree} → Step s c (holds id code operands has_blob blob) i d → Holds i.scope d behind u g → Holds s c (values id code operands has_blob blob behind) u g
record_holds first after = let is = first.1 in rw (← is.id, ← is.operands, ← is.has_blob, ← is.blob) (of_record first.0 after)

pub data Path : Scope → Cursor → List Piece → Scope → Cursor → Type 0 where
  stop : {s : Scope} {c : Cursor} → Path s c [] s c
  step : {s t : Scope} {c d e : Cursor} (i : StreamItem) {p : Piece} {ps : List Piece} → Step s c p i d → Path i.scope d ps t e → Path s c (p ∷ ps) t e

pub join : {s t u : Scope} {c d e : Cursor} {ps qs : List Piece} → Path s c ps t d → Path t d qs u e → Path s c (ps ++ qs) u e
join stop q = q
join (step i first p) q = step i first (join p q)

pub then : {s t : Scope} {c d e : Cursor} {ps : List Piece} (p : Piece) (i : StreamItem) → Path s c ps t d → Step t d p i e → Path s c (ps ++ p ∷ []) i.scope e
then p i way h = join way (step i h stop)

abbrev pub shown : Piece → List Shown
shown (begun id width words) = bare (Block id) ∷ []
shown ended = bare EndBlock ∷ []
shown (defines id t) = []
shown (holds id code operands has_blob blob) = record { entry = Record code; operands = operands; blob = blob } ∷ []

unfoldable pub all_shown : List Piece → List Shown
all_shown [] = []
all_shown (p ∷ ps) = shown p ++ all_shown ps

pub shown_join : (ps qs : List Piece) → all_shown (ps ++ qs) ≡ all_shown ps ++ all_shown qs
unfolding all_shown
shown_join [] qs = refl
shown_join (p ∷ ps) qs = rw (shown_join ps qs, append_assoc) refl

pub flat_shown : (t : StreamTree) → all_shown (flat t) ≡ entries t
unfolding all_shown flat entries
flat_shown nothing = refl
flat_shown (block id width words inside behind) = rw (shown_join (flat inside) (ended ∷ flat behind), flat_shown inside, flat_shown behind) refl
flat_shown (definition id t behind) = flat_shown behind
flat_shown (values id code operands has_blob blob behind) = rw (flat_shown behind) refl

pub from_tree : {s t : Scope} {c d : Cursor} {tree : StreamTree} → Holds s c tree t d → Path s c (flat tree) t d
unfolding flat
from_tree none = stop
from_tree (of_block first inside last behind) = step _ (first, refl, refl) (join (from_tree inside) (step _ last (from_tree behind)))
from_tree (of_definition first is behind) = step _ (first, is, refl) (from_tree behind)
from_tree (of_record first behind) = step _ (first, record { id = refl; operands = refl; has_blob = refl; blob = refl }) (from_tree behind)

-- the trees of a way that leaves so many blocks: one, and one behind each of their ends
pub data Unwound : ℕ → Scope → Cursor → List Piece → Scope → Cursor → Type 0 where
  level : {s t : Scope} {c e : Cursor} {ps : List Piece} (tree : StreamTree) → Holds s c tree t e → flat tree ≡ ps → Unwound zero s c ps t e
  ends : {k : ℕ} {s t u : Scope} {c d e f : Cursor} {j : StreamItem} {ps qs : List Piece} (tree : StreamTree) → Holds s c tree t d → Stands t d (Some EndBlock) j f → Unwound k j.scope f qs u e → flat tree ++ ended ∷ qs ≡ ps → Unwound (suc k) s c ps u e

in_front_of_record : {k : ℕ} {s t u : Scope} {c d e : Cursor} {i : StreamItem} {ps : List Piece} {id code : ℕ} {operands blob : List ℕ} {has_blob : Bool} → Step s c (holds id code operands has_blob blob) i d → i.scope ≡ t → Unwound k t d ps u e → Unwound k s c (holds id code operands has_blob blob ∷ ps) u e
unfolding flat
in_front_of_record {id = id} {code = code} {operands = operands} {blob = blob} {has_blob = has_blob} first same (level tree h is) =
    level (values id code operands has_blob blob tree) (record_holds first (rw (← same) at h)) (ap (λ (q : List Piece). holds id code operands has_blob blob ∷ q) is)
in_front_of_record {id = id} {code = code} {operands = operands} {blob = blob} {has_blob = has_blob} first same (ends tree h last rest is) =
    ends (values id code operands has_blob blob tree) (record_holds first (rw (← same) at h)) last rest (ap (λ (q : List Piece). holds id code operands has_blob blob ∷ q) is)

in_front_of_definition : {k : ℕ} {s t u : Scope} {c d e : Cursor} {i : StreamItem} {ps : List Piece} {id : ℕ} {def : AdmittedAbbreviation} → Step s c (defines id def) i d → i.scope ≡ t → Unwound k t d ps u e → Unwound k s c (defines id def ∷ ps) u e
unfolding flat
in_front_of_definition {id = id} {def = def} first same (level tree h eq) = level (definition id def tree) (definition_holds first (rw same h)) (ap (λ (q : List Piece). defines id def ∷ q) eq)
in_front_of_definition {id = id} {def = def} first same (ends tree h last rest eq) = ends (definition id def tree) (definition_holds first (rw same h)) last rest (ap (λ (q : List Piece). defines id def ∷ q) eq)

-- a block, by its inside and what stands behind its end
whole_block : {k : ℕ} {s t u v : Scope} {c d e f g : Cursor} {i j : StreamItem} {id width words : ℕ} {ps qs : List Piece} (inside : StreamTree) → Step s c (begun id width words) i d → Holds i.scope d inside t e → Stands t e (Some EndBlock) j f → j.scope ≡ v → flat inside ++ ended ∷ qs ≡ ps → Unwound k v f qs u g → Unwound k s c (begun id width words ∷ ps) u g
unfolding flat
whole_block {id = id} {width = width} {words = words} inside first within last same is (level tree h eq) =
    level (block id width words inside tree) (block_holds first within last (rw same h)) (rw (eq, is) refl)
whole_block {id = id} {width = width} {words = words} inside first within last same is (ends tree h end rest eq) =
    ends (block id width words inside tree) (block_holds first within last (rw same h)) end rest (rw (append_assoc, eq, is) refl)

in_front_of_block : {k : ℕ} {s t u : Scope} {c d e : Cursor} {i : StreamItem} {id width words : ℕ} {ps : List Piece} → Step s c (begun id width words) i d → i.scope ≡ t → Unwound (suc k) t d ps u e → Unwound k s c (begun id width words ∷ ps) u e
in_front_of_block first same (ends tree h last rest is) = whole_block tree first (rw same h) last refl is rest

abbrev pub entry_of : Piece → Option Entry
entry_of (begun id width words) = Some (Block id)
entry_of ended = Some EndBlock
entry_of (defines id t) = None
entry_of (holds id code operands has_blob blob) = Some (Record code)

pub stands : {s : Scope} {c d : Cursor} (p : Piece) (i : StreamItem) → Step s c p i d → Stands s c (entry_of p) i d
stands (begun id width words) i h = h.0
stands ended i h = h
stands (defines id t) i h = h.0
stands (holds id code operands has_blob blob) i h = h.0

pub no_end : (p : Piece) → is_end (entry_of p) ≡ false
no_end (begun id width words) = refl
no_end ended = refl
no_end (defines id t) = refl
no_end (holds id code operands has_blob blob) = refl

pub goes : {s : Scope} {c d : Cursor} (e : Option Entry) (i : StreamItem) → Stands s c e i d → is_end e ≡ false → IsWide s → Goes s c i d
goes {s} {c} {d} e i h is wide = elim (what_stands s c d i wide h.reads) [
  | inl end ↦ let last : e ≡ Some End = sym h.is ∙ end.entry in let both = rw last at is in absurd (cc)
  | inr on ↦ on
]

depth_at : {s : Scope} {c d : Cursor} (e : Option Entry) (i : StreamItem) → Stands s c e i d → is_end e ≡ false → IsWide s → depths (length s.around) e (length i.scope.around)
depth_at e i h is wide = rw h.is at (goes e i h is wide).depth

unwind : {s t : Scope} {c e : Cursor} {ps : List Piece} → Path s c ps t e → IsWide s → length t.around ≡ 0 → Unwound (length s.around) s c ps t e
unfolding flat
unwind stop wide top = rw top (level nothing none refl)
unwind (step i {p = begun id width words} first rest) wide top =
    in_front_of_block first refl (rw (depth_at _ i first.0 refl wide) at (unwind rest (goes _ i first.0 refl wide).wide top))
unwind (step i {p = ended} first rest) wide top =
    rw (depth_at _ i first refl wide) (ends nothing none first (unwind rest (goes _ i first refl wide).wide top) refl)
unwind (step i {p = defines id t} first rest) wide top =
    in_front_of_definition first refl (rw (depth_at _ i first.0 refl wide) at (unwind rest (goes _ i first.0 refl wide).wide top))
unwind (step i {p = holds id code operands has_blob blob} first rest) wide top =
    in_front_of_record first refl (rw (depth_at _ i first.0 refl wide) at (unwind rest (goes _ i first.0 refl wide).wide top))

-- a way that comes back to where no block is open is a tree
pub to_tree : {s t : Scope} {c e : Cursor} {ps : List Piece} → Path s c ps t e → IsWide s → length s.around ≡ 0 → length t.around ≡ 0 → (tree : StreamTree) × Holds s c tree t e × (flat tree ≡ ps)
to_tree way wide first last = of_level (rw first at (unwind way wide last)) where
  of_level : {s t : Scope} {c e : Cursor} {ps : List Piece} → Unwound zero s c ps t e → (tree : StreamTree) × Holds s c tree t e × (flat tree ≡ ps)
  of_level (level tree h is) = (tree, h, is)

pub way_wide : {s t : Scope} {c e : Cursor} {ps : List Piece} → Path s c ps t e → IsWide s → IsWide t
way_wide stop wide = wide
way_wide (step i {p = p} first rest) wide = way_wide rest (goes _ i (stands p i first) (no_end p) wide).wide

-- each piece takes a bit
pub way_size : {s t : Scope} {c e : Cursor} {ps : List Piece} → Path s c ps t e → IsWide s → length ps + length e.rest ≤ length c.rest
way_size stop wide = omega arith
way_size (step i {p = p} first rest) wide =
    let on = goes _ i (stands p i first) (no_end p) wide in
    let more = way_size rest on.wide in
    omega (arith, more, on.fewer)

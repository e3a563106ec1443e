-- A stream has one tree.
use Rattle.std.proofs.Common.{◌≡◌, ℕ, Bool, true, false, List, Option, Some, None, Ok, refl, sym, ap, ◌∙◌}
use Rattle.bit_stream.specs.Bits.Cursor.{Cursor}
use Rattle.bit_stream.specs.declared.entry.Entry.{Entry}
use Rattle.bit_stream.specs.declared.entry.Entry.TheVariants.{Block, EndBlock, Record, End}
use Rattle.bit_stream.specs.Abbreviation.{AdmittedAbbreviation}
use Rattle.bit_stream.specs.Scope.{Scope}
use Rattle.bit_stream.specs.Entry.{StreamItem, defined_at}
use Rattle.bit_tree.specs.Stream.{StreamTree, Stands, Holds, none, of_block, of_definition, of_record, Stream}
use Rattle.bit_tree.proofs.Faults.{end_stands}

-- one thing stands at a place
record Agree (e f : Option Entry) (i j : StreamItem) (c d : Cursor) : Type 0 where
  entry : e ≡ f
  it : i ≡ j
  place : c ≡ d

agree : (s : Scope) (c d f : Cursor) (x y : Option Entry) (i j : StreamItem) → Stands s c x i d → Stands s c y j f → Agree x y i j d f
agree s c d f x y i j h k =
    let one : StreamItem × Cursor = (i, d) in
    let other : StreamItem × Cursor = (j, f) in
    let both : one ≡ other = cc (h.reads, k.reads) in
    let it : i ≡ j = ap (λ (p : StreamItem × Cursor). p.0) both in
    record { entry = sym h.is ∙ (ap (λ (x : StreamItem). x.entry) it ∙ k.is); it = it; place = ap (λ (p : StreamItem × Cursor). p.1) both }

-- a block ends here, or the stream
abbrev closes : Option Entry → Bool
closes None = false
closes (Some (Block id)) = false
closes (Some EndBlock) = true
closes (Some (Record code)) = false
closes (Some End) = true

record Closed (s : Scope) (c : Cursor) : Type 0 where
  entry : Option Entry
  item : StreamItem
  behind : Cursor
  stands : Stands s c entry item behind
  closes : closes entry ≡ true

-- one tree, and one end of it
record Same (t u : StreamTree) (s v : Scope) (c d : Cursor) : Type 0 where
  tree : t ≡ u
  scope : s ≡ v
  cursor : c ≡ d

not_both : {T : Type 0} (s : Scope) (c d : Cursor) (e : Option Entry) (i : StreamItem) → Stands s c e i d → Closed s c → closes e ≡ false → T
not_both s c d e i h k never = let same = (agree s c d k.behind e k.entry i k.item h k.stands).entry in let two = rw same at never in absurd (cc (two, k.closes))

defined_same : (s : Scope) (c d f : Cursor) (t u : AdmittedAbbreviation) → defined_at s c ≡ Ok (t, d) → defined_at s c ≡ Ok (u, f) → t ≡ u
defined_same s c d f t u h k =
    let one : AdmittedAbbreviation × Cursor = (t, d) in
    let other : AdmittedAbbreviation × Cursor = (u, f) in
    let both : one ≡ other = cc (h, k) in
    ap (λ (p : AdmittedAbbreviation × Cursor). p.0) both

closed_by : {s : Scope} {c d : Cursor} (i : StreamItem) → Stands s c (Some EndBlock) i d → Closed s c
closed_by i h = record { entry = Some EndBlock; item = i; behind = _; stands = h; closes = refl }

same_tree : (one : StreamTree) (s t u : Scope) (c d e : Cursor) (other : StreamTree) → Holds s c one t d → Closed t d → Holds s c other u e → Closed u e → Same one other t u d e
same_tree one s t u c d e other none h none k = record { tree = refl; scope = refl; cursor = refl }
same_tree one s t u c d e other none h (of_block first inside last behind) k = not_both _ _ _ _ _ first h refl
same_tree one s t u c d e other none h (of_definition first is behind) k = not_both _ _ _ _ _ first h refl
same_tree one s t u c d e other none h (of_record first behind) k = not_both _ _ _ _ _ first h refl
same_tree one s t u c d e other (of_block first inside last behind) h none k = not_both _ _ _ _ _ first k refl
same_tree one s t u c d e other (of_definition first is behind) h none k = not_both _ _ _ _ _ first k refl
same_tree one s t u c d e other (of_record first behind) h none k = not_both _ _ _ _ _ first k refl
same_tree one s t u c d e other (of_block first inside last behind) h (of_block first' inside' last' behind') k =
    let a = agree _ _ _ _ _ _ _ _ first first' in
    let within = rw (← a.it, ← a.place) at inside' in
    let x = same_tree _ _ _ _ _ _ _ _ inside (closed_by _ last) within (closed_by _ last') in
    let ending = rw (← x.scope, ← x.cursor) at last' in
    let b = agree _ _ _ _ _ _ _ _ last ending in
    let after = rw (← b.it, ← b.place) at behind' in
    let y = same_tree _ _ _ _ _ _ _ _ behind h after k in
    record { tree = cc (a.entry, x.tree, y.tree); scope = y.scope; cursor = y.cursor }
same_tree one s t u c d e other (of_block first inside last behind) h (of_definition first' is' behind') k = let no = (agree _ _ _ _ _ _ _ _ first first').entry in absurd (cc)
same_tree one s t u c d e other (of_block first inside last behind) h (of_record first' behind') k = let no = (agree _ _ _ _ _ _ _ _ first first').entry in absurd (cc)
same_tree one s t u c d e other (of_definition first is behind) h (of_block first' inside' last' behind') k = let no = (agree _ _ _ _ _ _ _ _ first first').entry in absurd (cc)
same_tree one s t u c d e other (of_definition first is behind) h (of_definition first' is' behind') k =
    let a = agree _ _ _ _ _ _ _ _ first first' in
    let after = rw (← a.it, ← a.place) at behind' in
    let y = same_tree _ _ _ _ _ _ _ _ behind h after k in
    record { tree = cc (defined_same _ _ _ _ _ _ is is', y.tree); scope = y.scope; cursor = y.cursor }
same_tree one s t u c d e other (of_definition first is behind) h (of_record first' behind') k = let no = (agree _ _ _ _ _ _ _ _ first first').entry in absurd (cc)
same_tree one s t u c d e other (of_record first behind) h (of_block first' inside' last' behind') k = let no = (agree _ _ _ _ _ _ _ _ first first').entry in absurd (cc)
same_tree one s t u c d e other (of_record first behind) h (of_definition first' is' behind') k = let no = (agree _ _ _ _ _ _ _ _ first first').entry in absurd (cc)
same_tree one s t u c d e other (of_record first behind) h (of_record first' behind') k =
    let a = agree _ _ _ _ _ _ _ _ first first' in
    let after = rw (← a.it, ← a.place) at behind' in
    let y = same_tree _ _ _ _ _ _ _ _ behind h after k in
    record { tree = cc (a.entry, a.it, y.tree); scope = y.scope; cursor = y.cursor }

end_closed : (bytes : List ℕ) (tree : StreamTree) (h : Stream bytes tree) → Closed h.scope h.cursor
end_closed bytes tree h = record { entry = Some End; item = _; behind = h.cursor; stands = record { reads = end_stands h.scope h.cursor h.closed h.whole; is = refl }; closes = refl }

pub one_tree : (bytes : List ℕ) (one other : StreamTree) → Stream bytes one → Stream bytes other → one ≡ other
one_tree bytes one other h k = (same_tree one _ h.scope k.scope _ h.cursor k.cursor other h.all (end_closed bytes one h) k.all (end_closed bytes other k)).tree

use Rattle.std.proofs.Common.{All, Bool, List, Option, [], ap, false, is_some, option_to_list, refl, subst, suc, sym, true, ℕ, ◌++◌, ◌∙◌, ◌∷◌, ◌≡◌}
use Rattle.std.proofs.lemmas.Bool.{false≢true}
use Rattle.std.proofs.lemmas.List.Elements.{All-head}
use Rattle.std.specs.List.{list_any}
use Rattle.std.specs.Option.{option_map_or}
use Rattle.bitcode_write.specs.Entries.{alias_of}
use Rattle.module_arena.specs.Known.{counts}
use Rattle.module_arena.specs.Lists.{name_at}
use Rattle.record_write.specs.Operands.Numbered.{indices, texts}
use Rattle.record_table.specs.Layout.{place}
use Rattle.std.specs.Prelude.{bytes_eq, cond, ◌||◌}
use Rattle.module_arena.specs.Known.{HasGlobal}
use Rattle.module_arena.specs.declared.entry.GlobalId.{GlobalId}
use Rattle.record_write.proofs.OnOperands.Chain.{last4, reworded}
use Rattle.bitcode_write.proofs.entries.put_alias_parts.Goals as goal

by_first : (here : Bool) (x y : ℕ) → (here ≡ false → x ≡ y) → cond here 0 (suc x) ≡ cond here 0 (suc y)
by_first true x y h = refl
by_first false x y h = ap suc (h refl)

-- an entry that stands in front has its place among all
in_front : (ns others : List (List ℕ)) (name : List ℕ) → list_any (λ (n : List ℕ). bytes_eq n name) ns ≡ true → place bytes_eq (ns ++ others) name ≡ place bytes_eq ns name
unfolding place
in_front [] others name h = absurd (false≢true h)
in_front (n ∷ ns) others name h =
    by_first (bytes_eq n name) _ _ (λ e. in_front ns others name (subst (λ (b : Bool). (b || list_any (λ (x : List ℕ). bytes_eq x name) ns) ≡ true) e h))

pub returns-in-Some : goal.returns-in-Some
returns-in-Some c =
    let a = c.args.numbering.now in
    let o = c.args.operands.now.items in
    let x = c.args.alias.now in
    let named = c.bytes.ensures ∙ c.text.ensures.bytes in
    let target_is : (alias_of a x).target ≡ name_at a c.in-Some.target = ap (λ (t : Option GlobalId). option_map_or (name_at a) t []) c.in-Some.is in
    let k = indices a in
    let front : place bytes_eq k.globals (name_at a c.in-Some.target) ≡ place bytes_eq k.targets (alias_of a x).target =
    ap (place bytes_eq k.globals) (sym target_is) ∙ in_front k.targets _ (alias_of a x).target c.requires.fits.among in
    last4 _ o _ _ _ (place bytes_eq k.targets (alias_of a x).target ∷ []) _ _ _ _
    (c.in_ok-put_text.ensures ∙ ap (λ (n : List ℕ). o ++ (texts a).middle.spell n) named)
    c.in_ok-put_linkage.ensures c.in_ok-put_alias_type.ensures
    (reworded _ _ _ _ _ c.put_global.ensures (ap (λ (n : ℕ). n ∷ []) front))

pub returns-in-None : goal.returns-in-None
returns-in-None c = absurd (false≢true (ap (λ (t : Option GlobalId). is_some t) (sym c.in-None.is) ∙ c.requires.fits.some))

pub put_global-requires : goal.put_global-requires
put_global-requires c = All-head (HasGlobal (counts c.args.numbering.now)) c.in-Some.target [] (subst (λ (t : Option GlobalId). All (HasGlobal (counts c.args.numbering.now)) (option_to_list t)) c.in-Some.is c.requires.known.target_known)

-- What stands behind the types of a module is read back: variables, functions, aliases and bodies.
use Rattle.std.proofs.Common.{◌≡◌, ℕ, Bool, List, [], ◌∷◌, ◌++◌, refl, sym, ap, ◌∙◌, append-nil, append_assoc}
use Rattle.std.specs.Prelude.{map, filter_map, is_some}
use Rattle.std.specs.List.{fold}
use Rattle.module_arena.specs.Module.{Variable, Function, Alias, Module}
use Rattle.bit_tree.specs.Written.{Written, no_more}
use Rattle.record_table.specs.Fields.{label, name}
use Rattle.record_table.specs.Records.{Sofar, variable, function, alias, module_from}
use Rattle.record_table.specs.Spelling.{Line, put, put_bodies, records_put, body_of}
use Rattle.record_table.specs.Listed.{IsName, IsLabel}
use Rattle.record_table.specs.Lays.{Lays}
use Rattle.record_law.proofs.OnBodies.BodyBack.{put_append}
use Rattle.record_law.specs.FittingModules.{settled, due, Globals, with_globals, after_variable, after_function, after_alias, none_yet, behind_variables, behind_functions, TailFits, IsRead}
use Rattle.record_law.proofs.AllBodies.{IsPast, AllRead, bodies_back, bodies_of}
use Rattle.record_law.proofs.GlobalsRead.{variables_back, functions_back, aliases_back}

-- behind all variables, functions and aliases
abbrev pub behind_aliases : List Variable → List Function → List Alias → ℕ → Globals
behind_aliases vs fs all at = fold after_alias (behind_functions vs fs at) all

variables_fold : (vs : List Variable) (g : Globals) → fold after_variable g vs ≡ record g { at = (fold after_variable g vs).at; last = (fold after_variable g vs).last; variables = g.variables ++ vs }
variables_fold [] g = ap (λ all. record g { variables = all }) (sym (append-nil g.variables))
variables_fold (v ∷ vs) g =
    let h = fold after_variable (after_variable g v) vs in
    variables_fold vs (after_variable g v) ∙ ap (λ all. record g { at = h.at; last = h.last; variables = all }) (append_assoc g.variables (v ∷ []) vs)

functions_fold : (fs : List Function) (g : Globals) → fold after_function g fs ≡ record g { at = (fold after_function g fs).at; last = (fold after_function g fs).last; functions = g.functions ++ map due fs }
functions_fold [] g = ap (λ all. record g { functions = all }) (sym (append-nil g.functions))
functions_fold (f ∷ fs) g =
    let h = fold after_function (after_function g f) fs in
    functions_fold fs (after_function g f) ∙ ap (λ all. record g { at = h.at; last = h.last; functions = all }) (append_assoc g.functions (due f ∷ []) (map due fs))

aliases_fold : (all : List Alias) (g : Globals) → fold after_alias g all ≡ record g { at = (fold after_alias g all).at; last = (fold after_alias g all).last; aliases = g.aliases ++ all }
aliases_fold [] g = ap (λ all. record g { aliases = all }) (sym (append-nil g.aliases))
aliases_fold (a ∷ all) g =
    let h = fold after_alias (after_alias g a) all in
    aliases_fold all (after_alias g a) ∙ ap (λ all. record g { at = h.at; last = h.last; aliases = all }) (append_assoc g.aliases (a ∷ []) all)

past_variables : (vs : List Variable) (g : Globals) → IsPast g.last → IsPast (fold after_variable g vs).last
past_variables [] g past = past
past_variables (v ∷ vs) g past = past_variables vs (after_variable g v) (record { may = refl; not_first = refl; not_before = refl })

past_functions : (fs : List Function) (g : Globals) → IsPast g.last → IsPast (fold after_function g fs).last
past_functions [] g past = past
past_functions (f ∷ fs) g past = past_functions fs (after_function g f) (record { may = refl; not_first = refl; not_before = refl })

past_aliases : (all : List Alias) (g : Globals) → IsPast g.last → IsPast (fold after_alias g all).last
past_aliases [] g past = past
past_aliases (a ∷ all) g past = past_aliases all (after_alias g a) (record { may = refl; not_first = refl; not_before = refl })

module _ (vs : List Variable) (fs : List Function) (all : List Alias) (at : ℕ) where
  abbrev here_variables : Globals
  here_variables = behind_variables vs at

  abbrev here_functions : Globals
  here_functions = behind_functions vs fs at

  abbrev here_aliases : Globals
  here_aliases = behind_aliases vs fs all at

  all_variables : here_aliases.variables ≡ vs
  all_variables = ap (λ (g : Globals). g.variables) (aliases_fold all here_functions) ∙ ap (λ (g : Globals). g.variables) (functions_fold fs here_variables) ∙ ap (λ (g : Globals). g.variables) (variables_fold vs (none_yet at))

  all_functions : here_aliases.functions ≡ map due fs
  all_functions =
      ap (λ (g : Globals). g.functions) (aliases_fold all here_functions) ∙ ap (λ (g : Globals). g.functions) (functions_fold fs here_variables)
      ∙ ap (λ (g : Globals). g.functions ++ map due fs) (variables_fold vs (none_yet at))

  all_aliases : here_aliases.aliases ≡ all
  all_aliases =
      ap (λ (g : Globals). g.aliases) (aliases_fold all here_functions) ∙ ap (λ (g : Globals). g.aliases ++ all) (functions_fold fs here_variables)
      ∙ ap (λ (g : Globals). g.aliases ++ all) (variables_fold vs (none_yet at))

  all_past : IsPast here_aliases.last
  all_past = past_aliases all here_functions (past_functions fs here_variables (past_variables vs (none_yet at) (record { may = refl; not_first = refl; not_before = refl })))

unsettled : (fs : List Function) → map (λ (x : Bool × Function). x.1) (map settled fs) ≡ fs
unsettled [] = refl
unsettled (f ∷ fs) = ap (λ all. f ∷ all) (unsettled fs)

-- a module with these texts and structs, and the rest so
abbrev pub module_with : Sofar → List Variable → List Function → List Alias → Module
module_with s vs fs all = record { source = s.source; layout = s.layout; triple = s.triple; structs = s.k.structs; variables = vs; aliases = all; functions = fs }

module _ (s : Sofar) (lays_label : (own : ℕ) → Lays (IsLabel s.texts own) (label s.texts own)) (lays_name : Lays (IsName s.texts) (name s.texts)) where
  abbrev pub lines_of_variables : List Variable → List Line
  lines_of_variables vs = map (λ v. (5, (variable s.texts s.k).spell v)) vs

  abbrev pub lines_of_functions : List Function → List Line
  lines_of_functions fs = map (λ f. (6, (function s.texts s.k).spell (is_some f.body, f))) fs

  abbrev pub lines_of_aliases : List Alias → List Line
  lines_of_aliases all = map (λ a. (7, (alias s.texts s.k).spell a)) all

  globals_read : (vs : List Variable) (fs : List Function) (all : List Alias) (at : ℕ) (behind : Written) → TailFits s vs fs all at
      → module_from (with_globals s (none_yet at)) (records_put (put (lines_of_variables vs ++ lines_of_functions fs ++ lines_of_aliases all) behind))
      ≡ module_from (with_globals s (behind_aliases vs fs all at)) (records_put behind)
  globals_read vs fs all at behind fit =
      ap (λ w. module_from (with_globals s (none_yet at)) (records_put w)) (put_append (lines_of_variables vs ++ lines_of_functions fs) (lines_of_aliases all) behind)
      ∙ ap (λ w. module_from (with_globals s (none_yet at)) (records_put w)) (put_append (lines_of_variables vs) (lines_of_functions fs) (put (lines_of_aliases all) behind))
      ∙ variables_back s lays_label lays_name vs (none_yet at) (put (lines_of_functions fs) (put (lines_of_aliases all) behind)) fit.variables_fit
      ∙ functions_back s lays_label lays_name fs (behind_variables vs at) (put (lines_of_aliases all) behind) fit.functions_fit
      ∙ aliases_back s lays_label lays_name all (behind_functions vs fs at) behind fit.aliases_fit

  bodies_read : (vs : List Variable) (fs : List Function) (all : List Alias) (at : ℕ) → TailFits s vs fs all at
      → AllRead (with_globals s (behind_aliases vs fs all at)) fs (module_from (record s { at = (behind_aliases vs fs all at).at; last = (behind_aliases vs fs all at).last; variables = (behind_aliases vs fs all at).variables; functions = map due fs; aliases = (behind_aliases vs fs all at).aliases }) (records_put (put_bodies (filter_map (body_of s.texts s.k) fs) no_more)))
  unfolding bodies_of
  bodies_read vs fs all at fit =
      let g = behind_aliases vs fs all at in
      bodies_back (with_globals s g) lays_label fs [] g.at g.last (all_past vs fs all at) fit.bodies_fit

  -- what is put behind the types is read back
  pub tail_back : (vs : List Variable) (fs : List Function) (all : List Alias) (at : ℕ) → TailFits s vs fs all at
      → IsRead (module_with s vs fs all)
      (module_from (with_globals s (none_yet at)) (records_put (put (lines_of_variables vs ++ lines_of_functions fs ++ lines_of_aliases all) (put_bodies (filter_map (body_of s.texts s.k) fs) no_more))))
  tail_back vs fs all at fit =
      let g = behind_aliases vs fs all at in
      let w = put_bodies (filter_map (body_of s.texts s.k) fs) no_more in
      let read = bodies_read vs fs all at fit in
      record {
        sofar = record s { at = read.at; last = read.last; variables = g.variables; functions = map settled fs; aliases = g.aliases };
        is = globals_read vs fs all at w fit
            ∙ ap (λ due_ones. module_from (record s { at = g.at; last = g.last; variables = g.variables; functions = due_ones; aliases = g.aliases }) (records_put w)) (all_functions vs fs all at)
            ∙ read.is;
        same = ap (λ xs. module_with s xs (map (λ (x : Bool × Function). x.1) (map settled fs)) g.aliases) (all_variables vs fs all at)
            ∙ ap (λ xs. module_with s vs xs g.aliases) (unsettled fs) ∙ ap (module_with s vs fs) (all_aliases vs fs all at);
      }

-- The names of a table under their titles: what finds a title finds the name, and both go together.
use Rattle.std.proofs.Common.{◌≡◌, ℕ, ◌&&◌, Bool, true, false, cond, List, [], ◌∷◌, ◌++◌, map, Some, None}
use Rattle.std.proofs.Common.{refl, sym, ap, ◌∙◌}
use Rattle.std.specs.Prelude.{find, nat_eq}
use Rattle.std.specs.Cmp.Lexicographic.{pointwise, nat_list_eq_equiv}
use Rattle.std.specs.Map.{lookup, remove_entry, keys_of, values_of}
use Rattle.std.proofs.lemmas.List.{map_push}
use Rattle.indexmap.specs.IndexMap.{IndexMap, get, insert_entry}
use Rattle.indexmap.proofs.CallerLemmas.{insert_entry-new}
use Rattle.at_ddp.specs.Tables.{without_first}
use Rattle.at_nbp.specs.NameTables.{is_called}
use Rattle.at_nbp.specs.Titles.{title_of, titled}
use Rattle.at_nbp.specs.declared.names.Registered.{Registered}
use Rattle.at_nbp.specs.declared.title.Title.{Title}

-- titles as the code compares them
abbrev pub is_titled : Title → Title → Bool
is_titled a b = pointwise nat_eq a.object b.object && pointwise nat_eq a.kind b.kind

-- a title finds the name that is called so
pub finds_title : (object kind : List ℕ) (name : Registered)
    → is_titled (titled object kind) (title_of name) ≡ is_called object kind name
finds_title object kind name = λ j. nat_list_eq_equiv.symm (titled object kind).object (title_of name).object j
    && nat_list_eq_equiv.symm (titled object kind).kind (title_of name).kind j

module _ (object kind : List ℕ) where
  -- what is found under the title is the name
  pub name_under : (es : List (Title × Registered)) → keys_of es ≡ map title_of (values_of es)
      → lookup (is_titled (titled object kind)) es ≡ find (is_called object kind) (values_of es)
  name_under [] same = refl
  name_under (e ∷ es) same =
      let here : e.0 ≡ title_of e.1 = cc in
      let rest : keys_of es ≡ map title_of (values_of es) = cc in
      ap (λ t. cond (is_titled (titled object kind) t) (Some e.1) (lookup (is_titled (titled object kind)) es)) here
      ∙ ap (λ b. cond b (Some e.1) (lookup (is_titled (titled object kind)) es)) (finds_title object kind e.1)
      ∙ ap (cond (is_called object kind e.1) (Some e.1)) (name_under es rest)

  -- what is removed under the title is the first name that is called so
  pub names_without : (es : List (Title × Registered)) → keys_of es ≡ map title_of (values_of es)
      → values_of (remove_entry (is_titled (titled object kind)) es)
      ≡ without_first (is_called object kind) (values_of es)
  names_without [] same = refl
  names_without (e ∷ es) same =
      let here : e.0 ≡ title_of e.1 = cc in
      let rest : keys_of es ≡ map title_of (values_of es) = cc in
      ap (λ t. values_of (cond (is_titled (titled object kind) t) es
      (e ∷ remove_entry (is_titled (titled object kind)) es))) here
      ∙ ap (λ b. values_of (cond b es (e ∷ remove_entry (is_titled (titled object kind)) es)))
      (finds_title object kind e.1) ∙ go (is_called object kind e.1) (names_without es rest)
    where
      go : (b : Bool)
          → values_of (remove_entry (is_titled (titled object kind)) es)
          ≡ without_first (is_called object kind) (values_of es)
          → values_of (cond b es (e ∷ remove_entry (is_titled (titled object kind)) es))
          ≡ cond b (values_of es) (e.1 ∷ without_first (is_called object kind) (values_of es))
      go true ih = refl
      go false ih = ap (λ l. e.1 ∷ l) ih

  -- the names that are left stand under their titles
  pub titled_without : (es : List (Title × Registered)) → keys_of es ≡ map title_of (values_of es)
      → keys_of (remove_entry (is_titled (titled object kind)) es)
      ≡ map title_of (values_of (remove_entry (is_titled (titled object kind)) es))
  titled_without [] same = refl
  titled_without (e ∷ es) same =
      let here : e.0 ≡ title_of e.1 = cc in
      let rest : keys_of es ≡ map title_of (values_of es) = cc in
      go (is_titled (titled object kind) e.0) here rest (titled_without es rest)
    where
      go : (b : Bool) → e.0 ≡ title_of e.1 → keys_of es ≡ map title_of (values_of es)
          → keys_of (remove_entry (is_titled (titled object kind)) es)
          ≡ map title_of (values_of (remove_entry (is_titled (titled object kind)) es))
          → keys_of (cond b es (e ∷ remove_entry (is_titled (titled object kind)) es))
          ≡ map title_of (values_of (cond b es (e ∷ remove_entry (is_titled (titled object kind)) es)))
      go true here rest ih = rest
      go false here rest ih = λ j. here j ∷ ih j

-- ---- a name more

values_last : (es : List (Title × Registered)) (e : Title × Registered)
    → values_of (es ++ e ∷ []) ≡ values_of es ++ e.1 ∷ []
values_last es e = map_push (λ x. x.1) es e

pub titled_more : (es : List (Title × Registered)) (name : Registered) → keys_of es ≡ map title_of (values_of es)
    → keys_of (es ++ (title_of name, name) ∷ []) ≡ map title_of (values_of (es ++ (title_of name, name) ∷ []))
titled_more [] name same = refl
titled_more (e ∷ es) name same =
    let here : e.0 ≡ title_of e.1 = cc in
    let rest : keys_of es ≡ map title_of (values_of es) = cc in
    λ j. here j ∷ titled_more es name rest j

-- the names after one was put in under a title that none has
pub record IsFiled (es later : List (Title × Registered)) (name : Registered) : Type 0 where
  pub names : values_of later ≡ values_of es ++ name ∷ []
  pub titled : keys_of later ≡ map title_of (values_of later)

pub names_more : {S : Type 0} (m : IndexMap Title Registered S) (es later : List (Title × Registered))
    (title : Title) (name : Registered) → m.entries ≡ es → keys_of es ≡ map title_of (values_of es)
    → find (is_called name.object name.kind) (values_of es) ≡ None → title ≡ title_of name
    → later ≡ insert_entry is_titled m.entries title name → IsFiled es later name
names_more m es later title name kept same new its is =
    let none : get is_titled m (title_of name) ≡ None =
    ap (lookup (is_titled (title_of name))) kept ∙ name_under name.object name.kind es same ∙ new in
    let last : later ≡ es ++ (title_of name, name) ∷ [] =
    is ∙ ap (λ t. insert_entry is_titled m.entries t name) its ∙ insert_entry-new is_titled m (title_of name) name none
    ∙ ap (λ l. l ++ (title_of name, name) ∷ []) kept in
    record {
      names = ap values_of last ∙ values_last es (title_of name, name);
      titled = ap keys_of last ∙ titled_more es name same ∙ sym (ap (λ l. map title_of (values_of l)) last);
    }

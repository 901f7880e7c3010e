-- The new identifiers that a route gives to frames.
use Rattle.std.specs.Prelude.{ℕ, List, [], ◌∷◌, codes, Result, Ok}
use Rattle.serde_json.specs.Data.{Data}
use Rattle.can_frame.specs.Frames.{Identifier}
use Rattle.can_frame.specs.declared.rewrite.Rewrite.{Rewrite}
use Rattle.gw_config.specs.declared.version.Version.{Version}
use Rattle.gw_config.specs.declared.version.Version.TheVariants.{One, Two, Three}
use Rattle.gw_config.specs.Objects.{element_of}
use Rattle.gw_fields.specs.Faults.{Fault}
use Rattle.gw_fields.specs.Fields.{◌>>=◌, object_of, natural, truth, text, optional_list, each}
use Rattle.gw_fields.specs.Frames.{identifier_with}
use Rattle.gw_fields.specs.IdentifierTexts.{identifier_text}

-- how many entries a route may have
abbrev pub most_rewrites : ℕ
most_rewrites = 32

-- an entry of version 2: `id`, `ext`, `new_id`, `new_ext`, then the range of the old identifier and that of the new one
unfoldable pub number_rewrite : Data → Result Rewrite Fault
number_rewrite value = do
  from ← object_of (codes "rewrite") value
  old ← natural (codes "id") from
  old_is_extended ← truth (codes "ext") from
  new ← natural (codes "new_id") from
  new_is_extended ← truth (codes "new_ext") from
  old_id ← identifier_with (codes "id") old_is_extended old
  new_id ← identifier_with (codes "new_id") new_is_extended new
  Ok (record { from = old_id; to = new_id })

-- a field that is an identifier, as a text
unfoldable pub identifier_in : List ℕ → Data → Result Identifier Fault
identifier_in name from = do
  word ← text name from
  identifier_text name word

abbrev pub rewrite_fields : List (List ℕ)
rewrite_fields = codes "from" ∷ codes "to" ∷ []

-- an entry of version 3: `from`, then `to`
unfoldable pub text_rewrite : Data → Result Rewrite Fault
text_rewrite value = do
  from ← element_of Three (codes "rewrite") rewrite_fields value
  old_id ← identifier_in (codes "from") from
  new_id ← identifier_in (codes "to") from
  Ok (record { from = old_id; to = new_id })

-- an entry of a script of this version; version 1 reads none
abbrev pub entry_of : Version → Data → Result Rewrite Fault
entry_of One value = number_rewrite value
entry_of Two value = number_rewrite value
entry_of Three value = text_rewrite value

-- at most 32 entries, and none where the field is not there
unfoldable pub listed_rewrites : Version → Data → Result (List Rewrite) Fault
listed_rewrites version from = do
  items ← optional_list (codes "rewrite") most_rewrites from
  each (entry_of version) items

-- in version 1 the field says nothing
abbrev pub rewrites_of : Version → Data → Result (List Rewrite) Fault
rewrites_of One from = Ok []
rewrites_of Two from = listed_rewrites Two from
rewrites_of Three from = listed_rewrites Three from

-- Fields and groups in memory.
use Rattle.std.specs.Prelude.{ℕ, List, ◌∷◌, map, Option, Some, None, option_map}
use Rattle.std.specs.Borrow.{Bor}
use Rattle.serde_json.specs.Data.{Data}
use Rattle.synthetic_source.specs.Contents.{what_data}
use Rattle.synthetic_source.specs.Levels.{Shown}
use Rattle.synthetic_source.specs.Groups.{Named, Split}
use Rattle.synthetic_source.specs.declared.groups.Cut.{Cut}
use Rattle.synthetic_source.specs.declared.groups.Entry.{Entry}
use Rattle.synthetic_source.specs.declared.groups.Group.{Group}
use Rattle.synthetic_source.specs.declared.content.Content.{Content}

abbrev pub content_data : Content → Data
content_data c = what_data c.what

abbrev pub path_bytes : Option (Bor (List ℕ)) → Option (List ℕ)
path_bytes rest = option_map (λ r. r.now) rest

abbrev pub seen_cut : Cut → Split
seen_cut c = record { name = c.name.now; rest = path_bytes c.rest }

abbrev pub seen : Entry → Shown
seen e = record { path = e.path.now; value = content_data e.content }

abbrev pub seen_all : List Entry → List Shown
seen_all = map seen

abbrev pub seen_group : Group → Named
seen_group g = record { name = g.name.now; value = option_map content_data g.content; below = seen_all g.below.items }

abbrev pub seen_groups : List Group → List Named
seen_groups = map seen_group

abbrev pub group_names : List Group → List (List ℕ)
group_names = map (λ g. g.name.now)

-- a field with a content in front of others
abbrev pub with_content : List ℕ → Option Content → List Shown → List Shown
with_content path None es = es
with_content path (Some content) es = record { path = path; value = content_data content } ∷ es

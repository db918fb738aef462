-- What a draft has of the report of a history.
--     IsDrafted script events draft      it has its lines that are not short, and a blank page
use Rattle.std.specs.Prelude.{◌≡◌, ◌≤◌, [], List, map, string_bytes}
use Rattle.std.specs.String.{string_capacity}
use Rattle.jc_log.specs.Deeds.{deed}
use Rattle.jc_lines.specs.LongLines.{long_ends, long_lines, page_len}
use Rattle.jc_lines.specs.declared.drafts.Draft.{Draft}
use Rattle.jc_types.specs.declared.actions.Script.{Script}
use Rattle.jc_types.specs.declared.runs.Past.{Past}

-- The lines that are not short, where they end, and a blank page.
pub record IsDrafted (script : Script) (events : List Past) (draft : Draft) : Type 0 where
  pub long : string_bytes draft.long ≡ long_lines 1 (map (deed script) events)
  pub ends : draft.ends.items ≡ long_ends 0 1 (map (deed script) events)
  pub page : string_bytes draft.page ≡ []
  pub room : page_len ≤ string_capacity draft.page

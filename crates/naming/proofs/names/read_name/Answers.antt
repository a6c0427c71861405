-- A line with a name gives it.
use Rattle.std.proofs.Common.{◌∙◌, ap, Some}
use Rattle.naming.proofs.NamesRead.{name_stands, name_read}
use Rattle.naming.proofs.names.read_name.Goals as goal

pub returns-in-Some-Gives : goal.returns-in-Some-Gives
returns-in-Some-Gives c =
    let gives = c.in-Some-Gives.is ∙ ap Some c.in-Some-Gives.field-0-is in
    name_read _ _ _ _ _ _ _ _ _ _ _ _ _ c.names_line.ensures.line_value gives (name_stands _ _ _ c.requires.at_le_end _ c.names_line.ensures.names_inside gives) c.requires.at_le_end _ _ _ c.name_flaw.ensures c.worked_flaw.ensures c.lower-flaw.ensures _ _ c.value_kept.ensures c.give-more.ensures _ c.noted-in-Some-Gives.ensures

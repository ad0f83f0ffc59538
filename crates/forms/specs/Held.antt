-- What a table holds.
use Rattle.std.specs.Prelude.{List, vec_items}
use Rattle.forms.specs.declared.form.Entry.{Entry}
use Rattle.forms.specs.declared.table.Table.{Table}

-- the entries in closing order
abbrev pub held : Table → List Entry
held t = vec_items t.entries

-- `plan_rules::header::header_at` meets its contract: field by field.

use Rattle.plan_rules.proofs.header.header_at.Goals as goal

pub returns : goal.returns
returns c =
    rw (
      c.le32.ensures,
      c.le16.ensures,
      c.le16-2.ensures,
      c.le16-3.ensures,
      c.le16-4.ensures,
      c.le16-5.ensures,
      c.le32-2.ensures,
    )

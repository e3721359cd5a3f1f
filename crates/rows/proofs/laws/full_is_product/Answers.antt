use Rattle.rows.proofs.Fields.{full-is-product}
use Rattle.rows.proofs.laws.full_is_product.Goals as goal

pub returns : goal.returns
returns c = full-is-product

use Rattle.lr_cmd_render.proofs.Rendered.{render_puts_images}
use Rattle.lr_cmd_render.proofs.laws.render_puts_images.Goals as goal

pub returns : goal.returns
returns c = render_puts_images

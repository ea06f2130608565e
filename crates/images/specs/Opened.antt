-- What opening an image answers: 1, then 2; or the image, which the words past the first refuse or do not.
--
--   Opens ws r  <=>  the answer r to the words ws.
--
-- Assumes nothing.
use Rattle.std.specs.Prelude.{ℕ, ◌≡◌, List, get_or, Result, IfOk, OnErr}
use Rattle.machine.specs.Images.{size_in, image_refusal, found_in}
use Rattle.machine.specs.declared.ImageError.{ImageError}
use Rattle.images.specs.Inner.{words_refusal}
use Rattle.images.specs.declared.image.Image.{Image}

pub record Holds (ws : List ℕ) (i : Image) : Type 0 where
  pub words_are : i.words.now ≡ ws
  pub size_is : i.size ≡ size_in (get_or ws 0 0)
  pub refusal_is : image_refusal ws ≡ words_refusal ws i.size i.counted

pub record Opens (ws : List ℕ) (r : Result Image ImageError) : Type 0 where
  pub opened : IfOk r (Holds ws)
  pub refused : OnErr r (found_in r ≡ image_refusal ws)

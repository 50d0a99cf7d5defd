use Rattle.std.proofs.Common.{refl, ap, subst}
use Rattle.std.specs.List.{AllByRecursion}
use Rattle.std.specs.Io.KnownBytes.{Appends}
use Rattle.bl_image.specs.Images.{image_bytes, page_words, Fits64}
use Rattle.bl_image.proofs.image.Image.write.Goals as goal

pub returns-in-Ok-clause-ok : goal.returns-in-Ok-clause-ok
returns-in-Ok-clause-ok g c =
    let same = c.as_slice.ensures.value in
    let fits = subst (AllByRecursion (λ page. Fits64 (page_words page))) same c.in-Ok.ensures.fit in (
      image_bytes c.args.self.now.pages.items,
      record {
        count = (c.args.self.now.some, c.args.self.now.limit);
        words = fits;
        bytes_are = refl;
      },
      subst (Appends _ _) (ap image_bytes same) c.in-Ok.ensures.ok,
    )

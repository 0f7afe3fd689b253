use Rattle.meaning.specs.File.{edition_at, settings_at}
use Rattle.layout.proofs.settings_row.settings.Goals as goal

pub returns : goal.returns
unfolding settings_at edition_at
returns c =
    rw (
      c.u32_at.ensures.value,
      c.u32_at-2.ensures.value,
      c.u32_at-3.ensures.value,
      c.u32_at-4.ensures.value,
      c.u32_at-5.ensures.value,
      c.u32_at-6.ensures.value,
      c.u32_at-7.ensures.value,
      c.u32_at-8.ensures.value,
      c.u32_at-9.ensures.value,
      c.u32_at-10.ensures.value,
      c.u32_at-11.ensures.value,
      c.u32_at-12.ensures.value,
      c.u32_at-13.ensures.value,
      c.edition.ensures,
      c.u64_at.ensures,
    )

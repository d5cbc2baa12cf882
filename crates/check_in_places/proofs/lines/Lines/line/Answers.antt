use Rattle.std.proofs.Common.{◌≡◌, leb, rules, ◌∙◌}
use Rattle.std.proofs.lemmas.List.Sorted.{IsPartitionPoint-from_clause, IsPartitionedBy-leb}
use Rattle.check_in_places.specs.LineStarts.{line_starts}
use Rattle.check_in_places.proofs.LineLookup.{IsPoint, lines_ascend, point_is_line}
use Rattle.check_in_places.proofs.lines.Lines.line.Goals as goal

pub returns : goal.returns
returns c =
    let text = c.args.self.now.text.now in
    let starts = c.as_slice.result.now in
    let at = c.args.at in
    let all : starts ≡ line_starts text = c.as_slice.ensures.value ∙ c.args.self.now.all in
    let parted = IsPartitionedBy-leb (λ start. start) starts at (lines_ascend text starts all) in
    let point : IsPoint starts at c.partition_point.result =
    IsPartitionPoint-from_clause (λ start. leb start at) starts c.partition_point.result c.partition_point.ensures.partitioned parted
    (λ a r q k. search rules)
    in
    point_is_line text starts at c.partition_point.result all c.partition_point.ensures.bound point

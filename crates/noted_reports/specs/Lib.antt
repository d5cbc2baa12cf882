pub mod NotedReports
